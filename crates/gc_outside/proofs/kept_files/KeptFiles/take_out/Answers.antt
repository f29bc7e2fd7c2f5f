-- Without an entry and its bytes the other files stay.
use Rattle.std.proofs.Common.{◌≡◌, ◌+◌, ◌-◌, ◌≤◌, suc, ◌++◌, length, take, drop, get_or, None, position, ap, ◌∙◌, sym, arith, add-one, length-append, length-take-le, length-drop, vec_len}
use Rattle.std.specs.List.{remove}
use Rattle.gc_outside.specs.Arena.{is_named, entries_length, files_in}
use Rattle.gc_outside.specs.KeptFiles.{file_of, without}
use Rattle.gc_outside.proofs.Arena.{no_entry, length-files_in, without-absent, file_of-none, IsFirst, IsFirst-position, without-first, entries_length-remove}
use Rattle.gc_outside.proofs.kept_files.KeptFiles.take_out.Goals as goal
use Rattle.gc_outside.proofs.kept_files.KeptFiles.take_out.Goals.{After-close_gap, After-place}

-- there are as many files as entries
count : (c : After-place) → length c.args.self.now.files ≡ length c.as_slice.result.now
count c =
    ap (λ k. length k.files) (sym c.self.view_is) ∙ length-files_in c.self.inside.entries.items c.self.inside.bytes.items ∙ ap length (sym c.as_slice.ensures.value)

pub returns-in_default-clause-others : goal.returns-in_default-clause-others
returns-in_default-clause-others c =
    let name = c.args.name.now in
    let es = c.self.inside.entries.items in
    let nowhere : position (is_named name) es ≡ None = ap (position (is_named name)) (sym c.as_slice.ensures.value) ∙ sym c.place.ensures ∙ c.in_default.is in
    let absent : file_of c.args.self.now.files name ≡ None =
    ap (λ k. file_of k.files name) (sym c.self.view_is) ∙ file_of-none name no_entry es c.self.inside.bytes.items nowhere in
    (λ i. record { files = sym (without-absent name c.args.self.now.files absent) i; room = c.args.self.now.room })

pub returns-in_default-clause-bounded : goal.returns-in_default-clause-bounded
returns-in_default-clause-bounded c = omega (arith, count (goal.at.returns-in_default-clause-bounded c).After-place, c.as_slice.ensures.fits)

-- the entry that is taken out is the first of the name
first : (c : After-close_gap) → IsFirst c.args.name.now no_entry c.self.inside.entries.items c.in-Some.at
first c =
    let name = c.args.name.now in
    IsFirst-position name no_entry c.self.inside.entries.items c.in-Some.at
    (ap (position (is_named name)) (sym c.as_slice.ensures.value) ∙ sym c.place.ensures ∙ c.in-Some.is)

-- where its bytes begin
start : (c : After-close_gap) → c.span-start.result.0 ≡ entries_length (drop (suc c.in-Some.at) c.self.inside.entries.items)
start c = rw add-one at (c.span-start.ensures.start ∙ ap (λ l. entries_length (drop (c.in-Some.at + 1) l)) c.as_slice-2.ensures.value)

-- and end
end : (c : After-close_gap) → c.span-start.result.1 ≡ c.span-start.result.0 + (get_or c.self.inside.entries.items c.in-Some.at no_entry).length
end c = c.span-start.ensures.end no_entry ∙ ap (λ l. c.span-start.result.0 + (get_or l c.in-Some.at no_entry).length) c.as_slice-2.ensures.value

pub invariant_of-self : goal.invariant_of-self
invariant_of-self c =
    let es = c.self.inside.entries.items in
    let old = c.self.inside.bytes in
    let within : c.span-start.result.1 ≤ vec_len old = omega (arith, c.span-start.ensures.within, ap entries_length c.as_slice-2.ensures.value, c.self.invariant.shared) in
    let less : entries_length (remove es c.in-Some.at) + (get_or es c.in-Some.at no_entry).length ≡ entries_length es = entries_length-remove es c.in-Some.at no_entry (first c).0 in
    let fits : c.span-start.result.1 ≤ length old.items = omega (arith, within, old.ok.0) in
    let rest : vec_len c.close_gap.new.bytes ≡ c.span-start.result.0 + (length old.items - c.span-start.result.1) =
    omega (arith, c.close_gap.new.bytes.ok.0, ap length c.close_gap.ensures.items, length-append (take c.span-start.result.0 old.items) (drop c.span-start.result.1 old.items), length-take-le c.span-start.result.0 old.items (omega (arith, fits, c.span-start.ensures.ordered)), length-drop c.span-start.result.1 old.items) in
    record {
      shared = ap entries_length c.remove.ensures.items ∙ (let same : entries_length (remove es c.in-Some.at) ≡ vec_len c.close_gap.new.bytes = omega (arith, less, rest, end c, fits, c.self.invariant.shared, old.ok.0) in same);
      within = omega (arith, rest, c.self.invariant.within, fits, c.span-start.ensures.ordered, old.ok.0);
      has_memory = omega (arith, c.self.invariant.has_memory, c.close_gap.ensures.capacity);
    }

pub returns-clause-others : goal.returns-clause-others
returns-clause-others c =
    let es = c.self.inside.entries.items in
    let old = c.self.inside.bytes.items in
    let closed : c.close_gap.new.bytes.items ≡ take (entries_length (drop (suc c.in-Some.at) es)) old ++ drop (entries_length (drop (suc c.in-Some.at) es) + (get_or es c.in-Some.at no_entry).length) old =
    c.close_gap.ensures.items ∙ ap (λ n. take c.span-start.result.0 old ++ drop n old) (end c)
    ∙ ap (λ n. take n old ++ drop (n + (get_or es c.in-Some.at no_entry).length) old) (start c) in
    let out : files_in c.close_gap.new.bytes.items c.remove.new.self.items ≡ without c.args.name.now (files_in old es) =
    ap (files_in c.close_gap.new.bytes.items) c.remove.ensures.items
    ∙ without-first c.args.name.now no_entry es c.in-Some.at old c.close_gap.new.bytes.items (first c) (omega (arith, c.self.invariant.shared, c.self.inside.bytes.ok.0)) closed in
    rw (← c.self.view_is) (λ i. record { files = out i; room = c.self.inside.room })

pub returns-clause-bounded : goal.returns-clause-bounded
returns-clause-bounded c = omega (arith, count (goal.at.returns-clause-bounded c).After-place, c.as_slice.ensures.fits)
