use Rattle.texts.proofs.Texts.{field_by}
use Rattle.texts.proofs.push_field.Goals as goal

pub returns : goal.returns
returns c = search field_by
