-- A run in progress beside the run that the rules define.
use Rattle.std.proofs.Common.{◌≡◌, ℕ, ◌+◌, ◌<◌, ◌≤◌, List, [], ◌++◌, fold, replicate, true, false, Option, Some, None, refl, sym, ap, ◌∙◌, subst, arith, append-nil, option_to_list}
use Rattle.rv_step.specs.Run.{FlatState, IsFront, flat_run, next_state, is_over, console_with}
use Rattle.rv_step.proofs.Runs.{begins, goes_on, flat_run-stays, flat_run-grows}
use Rattle.gc_outside.specs.Emits.{Emits}
use Rattle.elf_image.specs.Ram.{ram_of, with_piece}
use Rattle.elf_image.specs.declared.image.Image.{Image}
use Rattle.elf_image.specs.declared.piece.Piece.{Piece}
use Rattle.rv_step.specs.Arch.{reset}
use Rattle.rv_step.specs.FlatMem.{zeroed}
use Rattle.rv_step.specs.declared.arch.Arch.{Arch}
use Rattle.session.specs.Run.{state_with, flat_size, flat_start}
use Rattle.session.specs.declared.flat_run.FlatRun.{FlatRun}
use Rattle.gc_outside.proofs.Emissions.{emits_nothing, emits_then, emits_cut}

-- the run has followed the rules from its start, and its console took what they write
pub record Follows (start : FlatState) (now : FlatRun) (old new : Option (List ℕ)) (before after : ℕ) : Type 0 where
  pub same : state_with now (flat_run start now.steps).console ≡ flat_run start now.steps
  pub emitted : Emits (flat_run start now.steps).console true old new before after

-- a step moves the run from r to t, with this byte for the console
abbrev pub Moves : FlatRun → FlatRun → Option ℕ → Type 0
Moves r t o = (bytes : List ℕ) → next_state (state_with r bytes) ≡ state_with t (console_with bytes o)

pub console_with-list : (bytes : List ℕ) (o : Option ℕ) → bytes ++ option_to_list o ≡ console_with bytes o
console_with-list bytes None = append-nil bytes
console_with-list bytes (Some b) = refl

pub follows-start : (r : FlatRun) (told : Option (List ℕ)) (f : ℕ) → r.steps ≡ 0 → Follows (state_with r []) r told told f f
follows-start r told f e =
    let b : state_with r [] ≡ flat_run (state_with r []) r.steps = begins (state_with r []) e in record {
      same = ap (λ (s : FlatState). state_with r s.console) (sym b) ∙ b;
      emitted = subst (λ (s : FlatState). Emits s.console true told told f f) b (emits_nothing told f);
    }

-- where a step leads
pub moved_to : (start : FlatState) (r t : FlatRun) (o : Option ℕ) → state_with r (flat_run start r.steps).console ≡ flat_run start r.steps
    → t.steps ≡ r.steps + 1 → Moves r t o → state_with t (console_with (flat_run start r.steps).console o) ≡ flat_run start t.steps
moved_to start r t o same count moves =
    goes_on start (flat_run start r.steps) (state_with t (console_with (flat_run start r.steps).console o)) r.steps t.steps refl
    (sym (moves (flat_run start r.steps).console) ∙ ap next_state same) count

pub follows-step : (start : FlatState) (r t : FlatRun) (o : Option ℕ) (old mid new : Option (List ℕ)) (f g h : ℕ) → Follows start r old mid f g
    → t.steps ≡ r.steps + 1 → Moves r t o → Emits (option_to_list o) true mid new g h → Follows start t old new f h
follows-step start r t o old mid new f g h follows count moves said =
    let k : List ℕ = (flat_run start r.steps).console in
    let e : state_with t (console_with k o) ≡ flat_run start t.steps = moved_to start r t o follows.same count moves in record {
      same = ap (λ (s : FlatState). state_with t s.console) (sym e) ∙ e;
      emitted = subst (λ (l : List ℕ). Emits l true old new f h) (console_with-list k o ∙ ap (λ (s : FlatState). s.console) e)
          (emits_then k (option_to_list o) true old mid new f g h follows.emitted said);
    }

pub follows-cut : (start : FlatState) (r t : FlatRun) (o : Option ℕ) (n : ℕ) (old mid new : Option (List ℕ)) (f g h : ℕ) → Follows start r old mid f g → r.steps < n
    → t.steps ≡ r.steps + 1 → Moves r t o → Emits (option_to_list o) false mid new g h → Emits (flat_run start n).console false old new f h
follows-cut start r t o n old mid new f g h follows lt count moves said =
    let k : List ℕ = (flat_run start r.steps).console in
    let e : state_with t (console_with k o) ≡ flat_run start t.steps = moved_to start r t o follows.same count moves in
    let grown : IsFront (flat_run start t.steps).console (flat_run start n).console = flat_run-grows start t.steps n (omega arith) in
    let front : k ++ option_to_list o ≡ (flat_run start t.steps).console = console_with-list k o ∙ ap (λ (s : FlatState). s.console) e in
    subst (λ (l : List ℕ). Emits l false old new f h) (ap (λ (l : List ℕ). l ++ grown.rest) front ∙ sym grown.whole)
    (emits_cut (k ++ option_to_list o) grown.rest old new f h (emits_then k (option_to_list o) false old mid new f g h follows.emitted said))

-- where no step more is made the run is the whole run
pub follows-over : (start : FlatState) (r : FlatRun) (n : ℕ) (old new : Option (List ℕ)) (f g : ℕ) → Follows start r old new f g → r.steps ≤ n
    → is_over (state_with r []) ≡ true → flat_run start r.steps ≡ flat_run start n
follows-over start r n old new f g follows le over =
    sym (flat_run-stays start r.steps n le (ap is_over (sym follows.same) ∙ over))

-- a run that makes its first step from here on
abbrev loaded_with : Arch → List ℕ → FlatState
loaded_with arch m = record { arch = arch; ram = m; console = []; exit = None; steps = 0 }

zeroed_is : (n : ℕ) → zeroed n ≡ replicate n 0
unfolding zeroed
zeroed_is n = refl

-- RAM with the pieces of an image, and the hart at its entry, are the start of its run
pub loaded_start : (image : Image) (arch : Arch) (m m' : List ℕ) (pieces : List Piece) → arch ≡ reset image.entry → m ≡ zeroed flat_size → pieces ≡ image.pieces → m' ≡ fold with_piece m pieces
    → loaded_with arch m' ≡ flat_start image
loaded_start image arch m m' pieces a z p l =
    let P : List Piece → Type 0 = λ ps. m' ≡ fold with_piece m ps in
    let Q : List ℕ → Type 0 = λ x. m' ≡ fold with_piece x image.pieces in
    let all : m' ≡ ram_of image flat_size = subst Q (z ∙ zeroed_is flat_size) (subst P p l) in
    ap (λ (x : Arch). loaded_with x m') a ∙ ap (λ (x : List ℕ). loaded_with (reset image.entry) x) all
