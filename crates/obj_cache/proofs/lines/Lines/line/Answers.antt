use Rattle.std.proofs.Common.{◌∙◌, ap, sym}
use Rattle.std.specs.Option.{option_map}
use Rattle.cache_tags.specs.Line.{Line}
use Rattle.obj_core.specs.Lines.{line_info, line_bytes}
use Rattle.obj_cache.specs.Commands.{told}
use Rattle.obj_cache.specs.Sets.{Sets, nth_in}
use Rattle.obj_cache.proofs.LinesLemmas.{nth_told, nth_none}
use Rattle.obj_cache.proofs.lines.Lines.line.Goals as goal

pub returns-in-Some-clause-line : goal.returns-in-Some-clause-line
returns-in-Some-clause-line c =
    sym (nth_told c.self.inside.tags c.args.set c.args.n c.in-Some.line (sym c.in-Some.is ∙ c.nth.ensures.nth))
    ∙ ap (λ (s : Sets). option_map (λ (l : Line). line_info (told c.args.set l)) (nth_in s c.args.set c.args.n)) c.self.view_is

pub returns-in-None-clause-line : goal.returns-in-None-clause-line
returns-in-None-clause-line c =
    sym (ap (option_map (λ (l : Line). line_info (told c.args.set l))) (nth_none c.self.inside.tags c.args.set c.args.n (sym c.nth.ensures.nth ∙ c.in-None.is)))
    ∙ ap (λ (s : Sets). option_map (λ (l : Line). line_info (told c.args.set l)) (nth_in s c.args.set c.args.n)) c.self.view_is

pub returns-in-None-clause-bytes : goal.returns-in-None-clause-bytes
returns-in-None-clause-bytes c =
    sym (ap (λ v. line_bytes (option_map (told c.args.set) v) c.args.bytes.now) (nth_none c.self.inside.tags c.args.set c.args.n (sym c.nth.ensures.nth ∙ c.in-None.is)))
    ∙ ap (λ (s : Sets). line_bytes (option_map (told c.args.set) (nth_in s c.args.set c.args.n)) c.args.bytes.now) c.self.view_is
