-- The file lies where its entry says.
use Rattle.std.proofs.Common.{◌≡◌, ◌+◌, ◌-◌, suc, arith, ap, ◌∙◌, sym, add-one, drop, get_or, Some, None, position}
use Rattle.std.specs.Option.{option_copied}
use Rattle.gc_outside.specs.Arena.{is_named, entries_length}
use Rattle.gc_outside.proofs.Arena.{IsFirst-position, file_of-first, file_of-none, no_entry}
use Rattle.gc_outside.proofs.kept_files.KeptFiles.file.Goals as goal

pub returns-in_err-at : goal.returns-in_err-at
returns-in_err-at c =
    let absent : position (is_named c.args.name.now) c.self.inside.entries.items ≡ None =
    ap (position (is_named c.args.name.now)) (sym c.as_slice-entries.ensures.value) ∙ sym c.place.ensures ∙ c.in_err-at.was in
    rw (← c.self.view_is) (ap option_copied c.from_residual.ensures ∙ sym (file_of-none c.args.name.now no_entry c.self.inside.entries.items c.self.inside.bytes.items absent))

pub returns : goal.returns
returns c =
    let name = c.args.name.now in
    let es = c.self.inside.entries.items in
    let found : position (is_named name) es ≡ Some c.in_ok-at.at =
    ap (position (is_named name)) (sym c.as_slice-entries.ensures.value) ∙ sym c.place.ensures ∙ c.in_ok-at.was in
    let start : c.span-start.result.0 ≡ entries_length (drop (suc c.in_ok-at.at) es) =
    rw add-one at (c.span-start.ensures.start ∙ ap (λ l. entries_length (drop (c.in_ok-at.at + 1) l)) c.as_slice-entries.ensures.value) in
    let end = c.span-start.ensures.end no_entry ∙ ap (λ l. c.span-start.result.0 + (get_or l c.in_ok-at.at no_entry).length) c.as_slice-entries.ensures.value in
    let long : c.span-start.result.1 - c.span-start.result.0 ≡ (get_or es c.in_ok-at.at no_entry).length = omega (arith, end) in
    let is = file_of-first name no_entry es c.in_ok-at.at c.self.inside.bytes.items (IsFirst-position name no_entry es c.in_ok-at.at found) in
    rw (← c.self.view_is) (cc (start, long, c.deref.ensures.value, is))
