-- From what a command comes to, to what its words do.
use Rattle.std.proofs.Common.{◌≡◌, ◌≢◌, ◌==◌, ℕ, inl, inr, false, List, [], ◌∷◌, ◌++◌, Option, Some, None, if◌then◌else◌, refl, sym, ap, ◌∙◌, subst}
use Rattle.gc_outside.specs.Faults.{CountsFaultIf}
use Rattle.gm_model.specs.ObjState.{ObjState}
use Rattle.rv_asm.specs.declared.fault.AsmFault.{AsmFault}
use Rattle.rv_asm.specs.declared.fault.AsmFault.TheVariants as sources
use Rattle.session.specs.Calls.{FlatComesTo, RunComesTo, AssemblyComesTo, PutComesTo, ComesTo, EndsAs}
use Rattle.session.specs.Codes.{code_of}
use Rattle.gc_outside.specs.Emissions.{Emission}
use Rattle.session.specs.Ending.{Ending, CountsFaults, EndsBy, Leaves, StopsBy, StoreCounts, is_store_failure, usage_refusal}
use Rattle.session.specs.Inputs.{SourceStops}
use Rattle.gc_outside.specs.Sinks.{SinkSeen, Sinks}
use Rattle.session.specs.Outside.{StoreSeen, SameStore, OnlyReads, Outside}
use Rattle.session.specs.Puts.{ProgramPuts, AssemblyPuts, RequestPuts, Puts}
use Rattle.session.specs.Refusals.{source_refusal}
use Rattle.session.specs.Words.{FlatRequest, RunRequest, AssemblyRequest, Request, Flat, Machine, flat_request, run_request, assembly_request, any_request, request_of}
use Rattle.session.specs.declared.status.Status.{Status}
use Rattle.session.specs.declared.status.Status.TheVariants as status

-- what is so of a request that the words ask for is so of the words
module _ (words : List (List ℕ)) (P : Option Request → Type 0) where
  asked-flat : (q : FlatRequest) → flat_request words ≡ Some q → P (Some (Flat q)) → P (request_of words)
  asked-flat q h p = (let Q : Option FlatRequest → Type 0 = λ o. P (any_request o (run_request words) (assembly_request words)) in subst Q (sym h) p)

  not_flat : flat_request words ≡ None → P (any_request None (run_request words) (assembly_request words)) → P (request_of words)
  not_flat h p = (let Q : Option FlatRequest → Type 0 = λ o. P (any_request o (run_request words) (assembly_request words)) in subst Q (sym h) p)

  asked-run : (q : RunRequest) → flat_request words ≡ None → run_request words ≡ Some q → P (Some (Machine q)) → P (request_of words)
  asked-run q h k p = not_flat h (let Q : Option RunRequest → Type 0 = λ o. P (any_request None o (assembly_request words)) in subst Q (sym k) p)

  asked-last : (o : Option AssemblyRequest) → flat_request words ≡ None → run_request words ≡ None → assembly_request words ≡ o → P (any_request None None o) → P (request_of words)
  asked-last o h k l p =
      not_flat h
      (let Q : Option RunRequest → Type 0 = λ x. P (any_request None x (assembly_request words)) in
      let R : Option AssemblyRequest → Type 0 = λ x. P (any_request None None x) in
      subst Q (sym k) (subst R (sym l) p))

module _ (words : List (List ℕ)) (parts : List ObjState) (s : Status) (old new : Outside) where
  By : Option Request → Type 0
  By o = EndsBy (ComesTo o parts) s old new

  pub ends-flat : (q : FlatRequest) → flat_request words ≡ Some q → EndsBy (FlatComesTo q) s old new → EndsAs s words parts old new
  unfolding EndsAs By
  ends-flat q h ends = asked-flat words By q h ends

  pub ends-run : (q : RunRequest) → flat_request words ≡ None → run_request words ≡ Some q → EndsBy (RunComesTo q parts) s old new → EndsAs s words parts old new
  unfolding EndsAs By
  ends-run q h k ends = asked-run words By q h k ends

  pub ends-assembly : (q : AssemblyRequest) → flat_request words ≡ None → run_request words ≡ None → assembly_request words ≡ Some q → EndsBy (AssemblyComesTo q) s old new
      → EndsAs s words parts old new
  unfolding EndsAs By
  ends-assembly q h k l ends = asked-last words By (Some q) h k l ends

  pub ends-usage : flat_request words ≡ None → run_request words ≡ None → assembly_request words ≡ None → new.store.faults ≡ old.store.faults
      → Leaves usage_refusal s old.sinks new.sinks → EndsAs s words parts old new
  unfolding EndsAs By
  ends-usage h k l same leaves = asked-last words By None h k l (usage_refusal, refl, same, leaves)

-- a refused source is no work done
source_not_done : (fault : AsmFault) → (source_refusal fault).status ≢ status.Done
source_not_done (sources.Line n kind) d = cc
source_not_done sources.NoMemory d = cc

stops_not_done : (name : List ℕ) (old new : StoreSeen) (e : Ending) → SourceStops name old new e → e.status ≢ status.Done
stops_not_done name old new e (inl (inl h)) d = let f : status.Store ≡ status.Done = sym (ap (λ x. x.status) h.1) ∙ d in cc
stops_not_done name old new e (inl (inr (inl h))) d = let f : status.Memory ≡ status.Done = sym (ap (λ x. x.status) h) ∙ d in cc
stops_not_done name old new e (inl (inr (inr (inl h)))) d = let f : status.File ≡ status.Done = sym (ap (λ x. x.status) h.1) ∙ d in cc
stops_not_done name old new e (inl (inr (inr (inr h)))) d = let f : status.File ≡ status.Done = sym (ap (λ x. x.status) h.3) ∙ d in cc
stops_not_done name old new e (inr h) d = source_not_done h.2.0 (sym (ap (λ x. x.status) h.2.2) ∙ d)

-- where the ending is no work done, no call answers that it was
leaves_not_done : (e : Ending) (s : Status) (old new : Sinks) → e.status ≢ status.Done → Leaves e s old new → s ≢ status.Done
leaves_not_done e s old new k (inl h) d = k (sym h.0 ∙ d)
leaves_not_done e s old new k (inr h) d = let f : status.Sink ≡ status.Done = sym h.0 ∙ d in cc

no_place : (before : List Emission) (cut : Emission) (behind : List Emission) → [] ≡ before ++ cut ∷ behind → ⊥
no_place [] cut behind e = cc
no_place (x ∷ before) cut behind e = cc

-- what stands in the store behind `asm`
assembly_puts : (q : AssemblyRequest) (s : Status) (old new : StoreSeen) (o n : Sinks) (e : Ending) → AssemblyComesTo q old new e → Leaves e s o n → AssemblyPuts s q old new
assembly_puts q s old new o n e (inl h) leaves = inr (leaves_not_done e s o n (stops_not_done q.source old new e h.1) leaves, h.0)
assembly_puts q s old new o n e (inr h) leaves = by_put h.2 leaves where
  by_put : PutComesTo q.image h.0 old new e → Leaves e s o n → AssemblyPuts s q old new
  by_put (inl k) l =
      inr (leaves_not_done e s o n (λ d. let f : status.Memory ≡ status.Done = sym (ap (λ x. x.status) k.1) ∙ d in cc) l, k.0)
  by_put (inr (inl k)) (inl l) =
      let P : Status → Type 0 = λ x. ProgramPuts x q.image h.0 old new in
      inl (h.0, h.1, subst P (sym (l.0 ∙ ap (λ x. x.status) k.1)) k.0)
  by_put (inr (inl k)) (inr l) =
      absurd (no_place l.2.before l.2.cut l.2.behind (sym (ap (λ x. x.emissions) k.1) ∙ l.2.place))
  by_put (inr (inr k)) (inl l) =
      let P : Status → Type 0 = λ x. ProgramPuts x q.image h.0 old new in
      inl (h.0, h.1, subst P (sym (l.0 ∙ ap (λ x. x.status) k.2)) k.0)
  by_put (inr (inr k)) (inr l) =
      let P : Status → Type 0 = λ x. ProgramPuts x q.image h.0 old new in
      inl (h.0, h.1, subst P (sym l.0) (inr k.0))

-- no other words but those of `asm` put a file
module _ (words : List (List ℕ)) (s : Status) (old new : StoreSeen) where
  Left : Option Request → Type 0
  Left o = RequestPuts s o old new

  pub puts-flat : (q : FlatRequest) → flat_request words ≡ Some q → OnlyReads old new → Puts s words old new
  unfolding Puts Left
  puts-flat q h reads = asked-flat words Left q h reads.same

  pub puts-run : (q : RunRequest) → flat_request words ≡ None → run_request words ≡ Some q → OnlyReads old new → Puts s words old new
  unfolding Puts Left
  puts-run q h k reads = asked-run words Left q h k reads.same

  pub puts-assembly : (q : AssemblyRequest) (o n : SinkSeen) → flat_request words ≡ None → run_request words ≡ None → assembly_request words ≡ Some q
      → StopsBy (AssemblyComesTo q) s old new o n → Puts s words old new
  unfolding Puts Left
  puts-assembly q o n h k l ends = asked-last words Left (Some q) h k l (assembly_puts q s old new _ _ ends.0 ends.1 (ends.3 o))

  pub puts-nothing : flat_request words ≡ None → run_request words ≡ None → assembly_request words ≡ None → SameStore old new → Puts s words old new
  unfolding Puts Left
  puts-nothing h k l same = asked-last words Left None h k l same

-- what a call counts that came to an ending
by_status : (s : Status) (old new : StoreSeen) → CountsFaultIf (is_store_failure s) old.faults new.faults → StoreCounts s old new
by_status status.Done old new h = h
by_status status.Usage old new h = h
by_status status.Config old new h = h
by_status status.Image old new h = h
by_status status.Script old new h = h
by_status status.File old new h = h
by_status status.Store old new h = h
by_status status.Sink old new h = (false, h)
by_status status.Memory old new h = h
by_status status.Part old new h = h
by_status status.Source old new h = h

counts_left : (e : Ending) (s : Status) (old new : StoreSeen) (o n : Sinks) → CountsFaults e old new → Leaves e s o n → StoreCounts s old new
counts_left e s old new o n counts (inl h) =
    let P : Status → Type 0 = λ x. StoreCounts x old new in subst P (sym h.0) (by_status e.status old new counts)
counts_left e s old new o n counts (inr h) =
    let P : Status → Type 0 = λ x. StoreCounts x old new in subst P (sym h.0) (is_store_failure e.status, counts)

pub ends-count : (s : Status) (words : List (List ℕ)) (parts : List ObjState) (old new : Outside) → EndsAs s words parts old new → StoreCounts s old.store new.store
unfolding EndsAs
ends-count s words parts old new ends = counts_left ends.0 s old.store new.store old.sinks new.sinks ends.2 ends.3

-- the status of a number
status_of : ℕ → Option Status
status_of n =
    if n == 0 then Some status.Done
    else if n == 2 then Some status.Usage
    else if n == 3 then Some status.Config
    else if n == 4 then Some status.Image
    else if n == 5 then Some status.Script
    else if n == 7 then Some status.File
    else if n == 8 then Some status.Store
    else if n == 9 then Some status.Sink
    else if n == 10 then Some status.Memory
    else if n == 11 then Some status.Part
    else Some status.Source

status_of-code_of : (s : Status) → status_of (code_of s) ≡ Some s
unfolding status_of
status_of-code_of status.Done = refl
status_of-code_of status.Usage = refl
status_of-code_of status.Config = refl
status_of-code_of status.Image = refl
status_of-code_of status.Script = refl
status_of-code_of status.Part = refl
status_of-code_of status.Source = refl
status_of-code_of status.File = refl
status_of-code_of status.Store = refl
status_of-code_of status.Sink = refl
status_of-code_of status.Memory = refl

code_of-injective : (s t : Status) → code_of s ≡ code_of t → s ≡ t
code_of-injective s t e =
    let f : Some s ≡ Some t = sym (status_of-code_of s) ∙ ap status_of e ∙ status_of-code_of t in cc

pub ends-at : (s t : Status) (n : ℕ) (words : List (List ℕ)) (parts : List ObjState) (old new : Outside) → n ≡ code_of s → n ≡ code_of t
    → EndsAs s words parts old new → EndsAs t words parts old new
ends-at s t n words parts old new e f ends =
    subst (λ (x : Status). EndsAs x words parts old new) (code_of-injective s t (sym e ∙ f)) ends

pub puts-at : (s t : Status) (n : ℕ) (words : List (List ℕ)) (old new : StoreSeen) → n ≡ code_of s → n ≡ code_of t → Puts s words old new → Puts t words old new
puts-at s t n words old new e f puts = subst (λ (x : Status). Puts x words old new) (code_of-injective s t (sym e ∙ f)) puts
