use Rattle.std.proofs.Common.{◌≡◌, arith, ap, sym, subst, refl, ◌∙◌, List, [], ◌∷◌, map, length}
use Rattle.std.proofs.lemmas.List.{length-append, length-map}
use Rattle.gm_words.specs.Kind.{kind_of_own}
use Rattle.gm_words.specs.Shown.{part_shown}
use Rattle.gm_words.specs.declared.platform.Part.{Part as KeptPart}
use Rattle.gm_model.specs.ObjState.{ObjState}
use Rattle.kernel.specs.Build.{IsPart}
use Rattle.kernel.proofs.Draws.{DrawnSoFar, one_there, enough_left, drawn_more, drawn_all, map_snoc}
use Rattle.kernel.proofs.Rows.{first_row, row_at}
use Rattle.kernel.proofs.draw.draw.Goals as goal

pub take_kind-requires-clause-there : goal.take_kind-requires-clause-there
take_kind-requires-clause-there g c =
    let x = c.index-rows-i.result in
    one_there c.kind.result (part_shown x) _ _ _ (first_row c.args.rows.now c.loop-i.i x c.loop-i-test.true c.index-rows-i.is)
    (c.kind.ensures ∙ ap (λ (y : KeptPart). kind_of_own y.own) (sym c.index-rows-i.is)) c.loop-i.invariant.enough

pub loop-i-preserved : goal.loop-i-preserved
loop-i-preserved g c =
    let i = c.loop-i.invariant in
    let x = c.index-rows-i.result in
    let rows = map part_shown c.args.rows.now in
    let taken = c.take_kind.ensures in
    let kind : c.kind.result ≡ kind_of_own (part_shown x).own = c.kind.ensures ∙ ap (λ (y : KeptPart). kind_of_own y.own) (sym c.index-rows-i.is) in
    let more = map_snoc (λ b. (goal.SimObject-dyn g (b.vtable, b.value)).state b.value) c.loop-i.drawn.items c.push.new.self.items c.take_kind.result c.in_ok-push.ensures.items in
    record {
      drawn = subst (λ (ss : List ObjState). DrawnSoFar ss rows) (sym more) (drawn_more (map (λ b. (goal.SimObject-dyn g (b.vtable, b.value)).state b.value) c.loop-i.drawn.items) rows _ (part_shown x) c.loop-i.i i.count (rw length-map c.loop-i-test.true)
          (row_at c.args.rows.now c.loop-i.i x c.loop-i-test.true c.index-rows-i.is) (subst (λ k. IsPart k ((goal.SimObject-dyn g (c.take_kind.result.vtable, c.take_kind.result.value)).state c.take_kind.result.value)) kind taken.part) i.drawn);
      count = ap (λ (ss : List ObjState). length ss) more ∙ omega (arith, length-append (map (λ b. (goal.SimObject-dyn g (b.vtable, b.value)).state b.value) c.loop-i.drawn.items) (((goal.SimObject-dyn g (c.take_kind.result.vtable, c.take_kind.result.value)).state c.take_kind.result.value) ∷ []), i.count);
      blank = taken.blank;
      enough = enough_left c.kind.result (part_shown x) _ _ _ _ _ (first_row c.args.rows.now c.loop-i.i x c.loop-i-test.true c.index-rows-i.is) kind taken.part taken.others i.enough;
    }

pub returns : goal.returns
returns g c =
    let i = c.loop-i.invariant in
    let few : length (map part_shown c.args.rows.now) ≡ length c.args.rows.now = rw length-map refl in
    drawn_all _ (map part_shown c.args.rows.now) (omega (arith, i.count, few, c.loop-i.auto.i-end, c.loop-i-test.false)) i.drawn
