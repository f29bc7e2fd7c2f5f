use Rattle.std.proofs.Common.{◌≡◌, ◌≤◌, ℕ, List, Some, None, length, take, drop, ap, sym, ◌∙◌, arith, ◌+◌}
use Rattle.std.proofs.lemmas.List.{take_all, take_rest}
use Rattle.std.specs.List.{position_or_len}
use Rattle.memchr.specs.Find.{IsFirstByte, is_byte}
use Rattle.gc_text.proofs.LineLemmas.{first_line-found, first_line-not_found, length-first_line}
use Rattle.gc_text.specs.LineReader.{first_line, is_line_feed}
use Rattle.stop_script.proofs.ScriptLemmas.{after_line-none, first_line-whole}
use Rattle.stop_script.proofs.reader.split_line.Goals as goal

-- the line feed that was found ends the first line
found : (t : List ℕ) (k : ℕ) → IsFirstByte (is_byte 10) t (Some k) → position_or_len is_line_feed t ≡ k
found t k h =
    let whole : take (length t) t ≡ t = take_all (length t) t (omega arith) in
    let is = first_line-found t (length t) (Some k) (omega arith) (rw whole h) in
    sym (length-first_line t) ∙ sym is.0

-- where none was found, the first line is the whole text
not_found : (t : List ℕ) → IsFirstByte (is_byte 10) t None → length t ≤ length (first_line t)
not_found t h =
    let whole : take (length t) t ≡ t = take_all (length t) t (omega arith) in
    first_line-not_found t (length t) None (omega arith) (rw whole h)

pub returns-in-Some-clause-line : goal.returns-in-Some-clause-line
returns-in-Some-clause-line c =
    ap (λ (k : ℕ). take k c.args.text.now) (sym (found c.args.text.now c.in-Some.end c.in-Some.ensures))

pub returns-in-Some-clause-rest : goal.returns-in-Some-clause-rest
returns-in-Some-clause-rest c =
    let same = found c.args.text.now c.in-Some.end c.in-Some.ensures in
    take_rest c.args.text.now (c.in-Some.end + 1) ∙ ap (λ (k : ℕ). drop (k + 1) c.args.text.now) (sym same)

pub returns-in-None-clause-line : goal.returns-in-None-clause-line
returns-in-None-clause-line c = sym (first_line-whole c.args.text.now (not_found c.args.text.now c.in-None.ensures))

pub returns-in-None-clause-rest : goal.returns-in-None-clause-rest
returns-in-None-clause-rest c = sym (after_line-none c.args.text.now (not_found c.args.text.now c.in-None.ensures))
