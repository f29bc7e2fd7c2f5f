use Rattle.std.proofs.Common.{◌≡◌, ◌∙◌, ℕ, ap, sym, arith, List, [], length, take, drop, map}
use Rattle.std.specs.Option.{option_map}
use Rattle.std.proofs.lemmas.List.{drop_all}
use Rattle.cache_tags.specs.Line.{Line}
use Rattle.cache_tags.specs.Held.{Held, of_address}
use Rattle.cache_tags.specs.Stored.{shown, in_order}
use Rattle.cache_tags.proofs.StoredLemmas.{way_at, found_next, passed_next}
use Rattle.cache_tags.proofs.set.Set.find.Goals as goal

pub loop-way-init : goal.loop-way-init
loop-way-init c =
    let taken : c.len.result ≡ length c.self.inside.lines.items = omega (arith, c.len.ensures, c.self.inside.lines.ok.0) in
    rw (← c.self.view_is)
    (ap (λ n. of_address c.args.addr (in_order (take n c.self.inside.order) (map (shown c.self.inside.line) c.self.inside.lines.items))) taken)

pub index-requires : goal.index-requires
index-requires c =
    let taken : c.len.result ≡ length c.self.inside.lines.items = omega (arith, c.len.ensures, c.self.inside.lines.ok.0) in
    omega (arith, way_at _ _ _ _ _ c.self.invariant c.len.result c.loop-way.way-index taken c.loop-way-test.true, c.self.inside.lines.ok.0)

pub returns-then-index-addr : goal.returns-then-index-addr
returns-then-index-addr c =
    let taken : c.len.result ≡ length c.self.inside.lines.items = omega (arith, c.len.ensures, c.self.inside.lines.ok.0) in
    let low = way_at _ _ _ _ _ c.self.invariant c.len.result c.loop-way.way-index taken c.loop-way-test.true in
    ap (option_map (λ (h : Held). h.way))
    (sym (found_next c.self.inside.line c.self.inside.lines.items (take c.len.result c.self.inside.order) c.loop-way.way-index c.args.addr c.index.result.now
    c.loop-way-test.true low c.index.ensures c.if-index-addr.true)
    ∙ c.loop-way.invariant)

pub loop-way-preserved : goal.loop-way-preserved
loop-way-preserved c =
    let taken : c.len.result ≡ length c.self.inside.lines.items = omega (arith, c.len.ensures, c.self.inside.lines.ok.0) in
    let low = way_at _ _ _ _ _ c.self.invariant c.len.result c.loop-way.way-index taken c.loop-way-test.true in
    sym (passed_next c.self.inside.line c.self.inside.lines.items (take c.len.result c.self.inside.order) c.loop-way.way-index c.args.addr c.index.result.now
    c.loop-way-test.true low c.index.ensures c.if-index-addr.false)
    ∙ c.loop-way.invariant

pub returns : goal.returns
returns c =
    let ls : List Line = map (shown c.self.inside.line) c.self.inside.lines.items in
    let ws : List ℕ = take c.len.result c.self.inside.order in
    let none : drop c.loop-way.way-index ws ≡ [] = drop_all c.loop-way.way-index ws c.loop-way-test.false in
    ap (option_map (λ (h : Held). h.way)) (sym (ap (λ ws. of_address c.args.addr (in_order ws ls)) none) ∙ c.loop-way.invariant)
