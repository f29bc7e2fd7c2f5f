use Rattle.std.proofs.Common.{Some, sym, ◌∙◌}
use Rattle.std.proofs.lemmas.Map.Text.{hash_map_updates_str}
use Rattle.rv_asm.specs.Seen.{labels_seen}
use Rattle.rv_asm.proofs.Given.{added}
use Rattle.rv_asm.proofs.labels.add.Goals as goal

pub returns : goal.returns
returns c = λ other.
    hash_map_updates_str c.args.name.now c.args.labels.now.places c.insert.new.self (Some c.args.place) c.in_ok-insert.ensures.updates other
    ∙ added (labels_seen c.args.labels.now) c.args.name.now other c.args.place (sym c.contains_key.ensures ∙ c.if-contains_key.false)
