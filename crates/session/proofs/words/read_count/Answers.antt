use Rattle.std.proofs.Common.{◌≡◌, ◌<◌, ◌≤◌, ◌^◌, ℕ, Some, refl, ap, sym, ◌∙◌, decimal, arith}
use Rattle.std.specs.Str.Parse.{digits_value}
use Rattle.std.proofs.lemmas.Fmt.{digits_value-decimal}
use Rattle.std.proofs.lemmas.Bool.Decides.{nat_tests}
use lib.Pointwise.{bytes_decides}
use Rattle.gc_text.proofs.DecimalLemmas.{std_digits}
use Rattle.session.specs.Words.{allowed_count, spelled_number}
use Rattle.session.proofs.words.read_count.Goals as goal

-- the decimal spelling of a number spells it
spelled_number-decimal : (n : ℕ) → n < 2 ^ 64 → spelled_number (decimal n) ≡ Some n
spelled_number-decimal n h =
    let e : digits_value 10 (decimal n) ≡ n = digits_value-decimal std_digits n h in
    rw (e, (bytes_decides (decimal n) (decimal n)).1 refl) refl

allowed_count-within : (n : ℕ) → n ≤ 1000000000 → allowed_count (Some n) ≡ Some n
allowed_count-within n h = grind (arith, nat_tests)

pub returns-in-Some : goal.returns-in-Some
returns-in-Some c =
    let e : c.args.text.now ≡ decimal c.in-Some.n = sym c.as_bytes.ensures.value ∙ c.in-Some.ensures.value in
    let s : spelled_number c.args.text.now ≡ Some c.in-Some.n = ap spelled_number e ∙ spelled_number-decimal c.in-Some.n (omega arith) in
    sym (ap allowed_count s ∙ allowed_count-within c.in-Some.n (omega arith))
