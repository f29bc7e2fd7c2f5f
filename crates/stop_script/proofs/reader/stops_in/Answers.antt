use Rattle.std.proofs.Common.{◌≡◌, Ok, Err, Result, None, Some, ◌+◌, ◌<◌, length, sym, ap, ◌∙◌, append-nil}
use Rattle.std.specs.Prelude.{IfErr, IsErrAnd}
use Rattle.stop_script.specs.Script.{NamesLine, TellsLine, line_stop, script_lines, stops_from, stops_of}
use Rattle.stop_script.proofs.ScriptLemmas.{length-filled, line_stop-number, onto, stops_from-moves, stops_from-stops}
use Rattle.stop_script.proofs.reader.stops_in.Goals as goal

-- what holds of the error holds of it where there is one
IfErr-from_and : {T E : Type 0} (r : Result T E) (P Q : E → Type 0) → IsErrAnd r P → ((e : E) → P e → Q e) → IfErr r Q
IfErr-from_and (Ok x) P Q h f = tt
IfErr-from_and (Err e) P Q h f = f e h

pub returns-in_err-stop-clause-line : goal.returns-in_err-stop-clause-line
returns-in_err-stop-clause-line c =
    let named : NamesLine c.in_err-stop.field-0.0 c.split_line.result.0.now (line_stop (c.loop-rest.number + 1) c.split_line.result.0.now) = c.in_err-stop.ensures in
    let some : 0 < length c.loop-rest.rest.now = length-filled c.loop-rest.rest.now c.loop-rest-test.ensures in
    let whole = stops_from-stops c.in_err-stop.field-0.0 c.loop-rest.stops.items (c.loop-rest.number + 1) c.loop-rest.rest.now
    c.split_line.result.0.now some c.split_line.ensures.line named in
    let stands : TellsLine c.in_err-stop.field-0.0 (stops_of c.args.bytes.now) = rw c.loop-rest.invariant.same whole in
    IfErr-from_and c.from_residual.result _ (λ fault. TellsLine fault (stops_of c.args.bytes.now)) c.from_residual.ensures.1 (λ e same. rw same stands)

pub loop-rest-preserved-in_ok-push : goal.loop-rest-preserved-in_ok-push
loop-rest-preserved-in_ok-push c =
    let said : line_stop (c.loop-rest.number + 1) c.split_line.result.0.now ≡ Ok (Some c.in-Some.stop) = c.in_ok-stop.ensures ∙ ap Ok c.in-Some.is in
    let some : 0 < length c.loop-rest.rest.now = length-filled c.loop-rest.rest.now c.loop-rest-test.ensures in
    record {
      few = line_stop-number (c.loop-rest.number + 1) c.split_line.result.0.now (Some c.in-Some.stop) said;
      same = c.loop-rest.invariant.same
          ∙ stops_from-moves c.loop-rest.stops.items (c.loop-rest.number + 1) c.loop-rest.rest.now c.split_line.result.0.now
          c.split_line.result.1.now (Some c.in-Some.stop) some c.split_line.ensures.line c.split_line.ensures.rest said
          ∙ ap (λ stops. onto stops (stops_from (c.loop-rest.number + 1 + 1) (script_lines c.split_line.result.1.now))) (sym c.in_ok-push.ensures.items);
    }

pub loop-rest-preserved : goal.loop-rest-preserved
loop-rest-preserved c =
    let said : line_stop (c.loop-rest.number + 1) c.split_line.result.0.now ≡ Ok None = c.in_ok-stop.ensures ∙ ap Ok c.in_default.is in
    let some : 0 < length c.loop-rest.rest.now = length-filled c.loop-rest.rest.now c.loop-rest-test.ensures in
    record {
      few = line_stop-number (c.loop-rest.number + 1) c.split_line.result.0.now None said;
      same = c.loop-rest.invariant.same
          ∙ stops_from-moves c.loop-rest.stops.items (c.loop-rest.number + 1) c.loop-rest.rest.now c.split_line.result.0.now
          c.split_line.result.1.now None some c.split_line.ensures.line c.split_line.ensures.rest said
          ∙ ap (λ stops. onto stops (stops_from (c.loop-rest.number + 1 + 1) (script_lines c.split_line.result.1.now))) (append-nil c.loop-rest.stops.items);
    }
