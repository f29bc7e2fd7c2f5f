use Rattle.std.proofs.Common.{◌≡◌, Ok, sym, ap, ◌∙◌}
use Rattle.stop_script.specs.Script.{stops_of}
use Rattle.stop_script.proofs.LineLaws.{canonical_refused, canonical_says, script_is, tells_refused}
use Rattle.stop_script.proofs.reader.read.Goals as goal

pub returns-in-Ok-clause-lines : goal.returns-in-Ok-clause-lines
returns-in-Ok-clause-lines c = script_is c.args.bytes.now c.new.result (c.in-Ok.ensures.stops ∙ ap Ok (sym c.new.ensures))

pub returns-in-Ok-clause-back : goal.returns-in-Ok-clause-back
returns-in-Ok-clause-back c = λ stops canonical.
    let read : stops_of c.args.bytes.now ≡ Ok c.new.result = c.in-Ok.ensures.stops ∙ ap Ok (sym c.new.ensures) in
    let said : stops_of c.args.bytes.now ≡ Ok stops = canonical_says c.args.bytes.now stops canonical in
    cc

pub returns-in-Err-clause-refused : goal.returns-in-Err-clause-refused
returns-in-Err-clause-refused c = tells_refused c.in-Err.fault c.args.bytes.now c.in-Err.ensures.line

pub returns-in-Err-clause-back : goal.returns-in-Err-clause-back
returns-in-Err-clause-back c = λ stops canonical. canonical_refused c.in-Err.fault c.args.bytes.now stops c.in-Err.ensures.line canonical
