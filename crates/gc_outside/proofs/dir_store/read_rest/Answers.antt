-- What was read of known bytes is a front of them, and all of them at the end.
use Rattle.std.proofs.Common.{◌≡◌, ℕ, ◌<◌, List, ◌++◌, Option, Some, None, IfSome, length, take, ap, sym, subst, ◌∙◌, arith, append-nil, length-append, rules}
use Rattle.std.specs.Io.KnownBytes.{Consumes, IsAtEnd}
use Rattle.std.proofs.KnownBytes.{Consumes-trans}
use Rattle.gc_outside.specs.Store.{AnswersFile}
use Rattle.gc_outside.specs.declared.store.Got.TheVariants.{Bytes, Longer}
use Rattle.gc_outside.proofs.dir_store.read_rest.Goals as goal

-- a reader that is at its end gave the whole file
whole_answer : (a b : Option (List ℕ)) (bs : List ℕ) (most : ℕ) → Consumes a b bs → IsAtEnd b
    → IfSome a (λ rest. AnswersFile most (Some rest) (Bytes bs))
whole_answer None b bs most p e = tt
whole_answer (Some x) None bs most p e = absurd p
whole_answer (Some x) (Some y) bs most p e = ap Some (p ∙ ap (λ l. bs ++ l) e ∙ append-nil bs)

-- a file of which more was read than the most is longer
longer_answer : (a b : Option (List ℕ)) (bs : List ℕ) (most : ℕ) → Consumes a b bs → most < length bs
    → IfSome a (λ rest. AnswersFile most (Some rest) Longer)
longer_answer None b bs most p long = tt
longer_answer (Some x) None bs most p long = absurd p
longer_answer (Some x) (Some y) bs most p long = omega (arith, ap length p, length-append bs y)

pub returns-then-count-eq0-clause-answer : goal.returns-then-count-eq0-clause-answer
returns-then-count-eq0-clause-answer g c =
    let read = c.in-Ok.ensures.bytes in
    let kept = c.loop-count.bytes.items in
    let same : kept ++ take c.in-Ok.count c.read.new.buf ≡ c.new.result =
    ap (λ n. kept ++ take n c.read.new.buf) c.if-count-eq0.true ∙ append-nil kept ∙ sym c.new.ensures in
    let all = subst (Consumes _ _) same (Consumes-trans _ _ _ _ _ c.loop-count.invariant.1 read.0) in
    whole_answer _ _ _ c.args.most all (read.1 c.if-count-eq0.true (search rules))

pub returns-then-count-most-clause-answer : goal.returns-then-count-most-clause-answer
returns-then-count-most-clause-answer g c =
    let read = c.in-Ok.ensures in
    let more = take c.in-Ok.count c.read.new.buf in
    let all = Consumes-trans _ _ _ _ _ c.loop-count.invariant.1 read.bytes.0 in
    longer_answer _ _ _ c.args.most all
    (omega (arith, length-append c.loop-count.bytes.items more, read.bound, c.if-count-most.true, c.len.ensures, c.loop-count.invariant.0))
