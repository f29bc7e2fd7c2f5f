use Rattle.std.proofs.Common.{◌≡◌, ◌==◌, ◌∙◌, ℕ, sym, ap, arith, Some, length}
use Rattle.std.specs.Option.{option_map}
use Rattle.cache_tags.specs.Line.{Line}
use Rattle.cache_tags.specs.Held.{Held}
use Rattle.cache_tags.proofs.Counts.{All-found}
use Rattle.cache_tags.proofs.StoredLemmas.{way_here, line_read}
use Rattle.cache_tags.proofs.set.Set.bytes.Goals as goal

pub index-requires : goal.index-requires
index-requires c =
    let here = way_here _ _ _ _ _ c.self.invariant c.args.way (rw (← c.self.view_is) at c.requires) in
    omega (arith, here.1, c.self.inside.lines.ok.0)

pub returns-clause-bytes : goal.returns-clause-bytes
returns-clause-bytes c =
    let here = way_here _ _ _ _ _ c.self.invariant c.args.way (rw (← c.self.view_is) at c.requires) in
    rw (← c.self.view_is)
    (ap (option_map (λ (h : Held). h.line.bytes)) here.0
    ∙ ap (λ (l : Line). Some l.bytes) (line_read c.self.inside.line c.self.inside.lines.items c.args.way c.index.result.now here.1 c.index.ensures))

pub returns-clause-whole : goal.returns-clause-whole
returns-clause-whole c =
    let here = way_here _ _ _ _ _ c.self.invariant c.args.way (rw (← c.self.view_is) at c.requires) in
    let line = line_read c.self.inside.line c.self.inside.lines.items c.args.way c.index.result.now here.1 c.index.ensures in
    let size : ℕ = c.self.inside.line in
    let whole = All-found (λ (h : Held). length h.line.bytes ≡ size) (λ h. h.way == c.args.way) _ _ c.self.invariant.sound.whole here.0 in
    rw (← c.self.view_is) (sym (ap (λ (l : Line). length l.bytes) line) ∙ whole)
