use Rattle.std.proofs.Common.{◌∙◌, ap, length, rules}
use Rattle.context_bytes.proofs.Decoded.{from_length}
use Rattle.checker.proofs.InPlace.{supervisors_in}
use Rattle.checker.proofs.past_supervisors.Goals as goal

pub returns : goal.returns
returns c =
    supervisors_in _ _ c.requires _ _ _ c.counts_at-n.ensures _ _ c.last_at-before.ensures _ _ _ (search (rules, c.supervisors-v.type_inv)) _ _ _ _ _ _ _ _ (c.supervisors-v.auto.states ∙ ap length c.bytes_at-states.ensures ∙ from_length c.args.state.now 207 32) (c.supervisors-v.auto.alphabet ∙ ap length c.bytes_at-alphabet.ensures ∙ from_length c.args.state.now 239 256) c.word_at-events.ensures c.word_at-known.ensures c.bytes_at-states.ensures c.bytes_at-alphabet.ensures c.supervisors-v.ensures
    c.put_bytes.ensures c.put_bytes-2.ensures c.put_last.ensures c.put_word.ensures
