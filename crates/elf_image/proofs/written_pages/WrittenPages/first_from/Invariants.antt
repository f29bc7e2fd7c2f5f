use Rattle.std.proofs.Common.{◌≡◌, ℕ, ◌/◌, ◌<◌, ◌≤◌, false, get_or}
use Rattle.gc_base.specs.declared.limits.TheConstants.{PAGE}
use Rattle.elf_image.proofs.written_pages.WrittenPages.first_from.Given as goal

-- no page before this one counts as written
abbrev pub invariant-loop-page : goal.invariant-loop-page
invariant-loop-page l = (k : ℕ) → l.from / PAGE ≤ k → k < l.page → get_or l.self.pages k false ≡ false
