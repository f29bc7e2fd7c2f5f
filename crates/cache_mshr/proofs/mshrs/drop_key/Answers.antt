use Rattle.std.proofs.Common.{◌≡◌, ◌∙◌, ℕ, ◌+◌, ◌≤◌, ◌<◌, List, ◌++◌, refl, ap, sym, arith, length, take, drop, get_or, eq-eqb, append-nil}
use Rattle.std.proofs.Math.ListN.{drop_of_length-le}
use Rattle.std.proofs.lemmas.List.{drop_more, take_all}
use Rattle.cache_mshr.specs.Kept.{without_key}
use Rattle.cache_mshr.proofs.mshrs.drop_key.Goals as goal

removed_here : (ks : List ℕ) (n k d : ℕ) → n < length ks → get_or ks n d ≡ k → without_key k ks ≡ take n ks ++ without_key k (drop n ks)
    → take n ks ++ drop (n + 1) ks ≡ without_key k ks
removed_here ks n k d l e h = sym (h ∙ ap (λ js. take n ks ++ js) (rw (drop_more ks n d l) (rw (eq-eqb (get_or ks n d) k e) refl)))

not_there : (ks : List ℕ) (n k : ℕ) → length ks ≤ n → without_key k ks ≡ take n ks ++ without_key k (drop n ks) → ks ≡ without_key k ks
not_there ks n k l h = sym (h ∙ rw (take_all n ks l) (rw (drop_of_length-le ks {i = n} l) (append-nil ks)))

pub returns-then-index-key-clause-items : goal.returns-then-index-key-clause-items
returns-then-index-key-clause-items c =
    let i = c.loop-at.invariant in
    rw c.remove.ensures.by_index.2 (rw (← i.same)
    (removed_here c.loop-at.keys.items c.loop-at.at c.args.key c.index.result.now
    (omega (arith, c.loop-at-test.true, c.len-at-end.ensures, c.args.keys.now.ok.0, ap length i.same))
    (sym c.index.ensures ∙ c.if-index-key.true) i.others))

pub returns-clause-items : goal.returns-clause-items
returns-clause-items c =
    let i = c.loop-at.invariant in
    rw (← i.same)
    (not_there c.loop-at.keys.items c.loop-at.at c.args.key
    (omega (arith, c.loop-at-test.false, c.len-at-end.ensures, c.args.keys.now.ok.0, ap length i.same)) i.others)
