use Rattle.rewrite.proofs.Apart.{put_by}
use Rattle.rewrite.proofs.put_at.Goals as goal

pub returns : goal.returns
returns c = search put_by
