-- What one wake means for the program: the invariant is kept, and what is noted is replayed, for any parts that meet the laws.
use Rattle.std.proofs.Common.{◌≡◌, ℕ, ◌+◌, ◌≤◌, true, false, List, ◌++◌, sym, ◌∙◌, ap, subst, arith, Some, None, ◌⊎◌, inl, inr, length}
use Rattle.std.proofs.lemmas.Bool.{cases_eq}
use Rattle.gm_model.specs.Deliver.{Item}
use Rattle.gm_model.specs.ObjState.{Blank}
use Rattle.gm_words.specs.Platform.{is_in_ram}
use Rattle.gm_words.specs.Replay.{ProgramState, replay}
use Rattle.gm_words.specs.Routes.{Route, is_unmapped}
use Rattle.gm_words.specs.Moves.{Moves}
use Rattle.gm_model.specs.Sys.{Sys}
use Rattle.gm_model.specs.View.{Mind, all_packets, part_packets, item_packets, parts_mind, awaited, progress_of}
use Rattle.gm_words.specs.declared.act.Act.{Act}
use Rattle.gm_words.specs.declared.entry.Entry.{Entry}
use Rattle.gm_words.specs.declared.kind.Kind.TheVariants as kinds
use Rattle.pkt_pool.specs.declared.packet.Packet.{Packet}
use Rattle.gm_words.specs.declared.wake.Wake.{Wake}
use Rattle.gm_laws.specs.Words.{weigh, IsBlind, requests_of, responses_of}
use Rattle.gm_laws.specs.Face.{Face}
use Rattle.gm_laws.specs.Program.{core, bad, MayThink, Mindless, Thinks}
use Rattle.gm_system.specs.MemoryLaws.{IsElse}
use Rattle.gm_system.specs.MemoryView.{MemoryView, MemoryStep, MemoryRests, state_seen}
use Rattle.gm_system.specs.System.{IsProgram, faces, others_packets}
use Rattle.gm_laws.proofs.Weights.{weigh-append, on_core, on_core-blind, on_core-none, core_blind, bad_blind, kept_progress}
use Rattle.gm_system.proofs.Packets.{mind_there, blank_mind}
use Rattle.gm_system.proofs.Thoughts.{Awaits, state_with, same_state, thought_leads}
use Rattle.gm_system.proofs.Services.{serves_leads}

-- from the packets xs to ys: beside those that stay, what ended and was served, and what was made and answered
pub record Shift (xs ys : List Packet) (v : Moves) : Type 0 where
  pub stay : List Packet
  pub before : (f : Packet → ℕ) → IsBlind f → weigh f xs ≡ weigh f stay + weigh f v.answered + weigh f v.absorbed + weigh f (requests_of v.served)
  pub after : (f : Packet → ℕ) → IsBlind f → weigh f ys ≡ weigh f stay + weigh f v.made + weigh f (responses_of v.served)

-- the program's state, by the invariant
pub state_is : (y : MemoryView) (ram : ℕ) (s : Sys) (items : List Item) (p : IsProgram y ram s items)
    → state_seen (y.view s) s items ≡ state_with s.routes p.mind (all_packets s items) (y.view s)
state_is y ram s items p =
    let m : parts_mind s.objects ≡ p.mind = mind_there s.objects p.cpu (Blank kinds.AtomicCpu) p.mind p.here blank_mind p.alone in
    ap (λ (n : Mind). let q : ProgramState = record { arch = n.arch; progress = progress_of s.routes n.doing (awaited (all_packets s items)); memory = y.view s } in q) m

-- what a step leaves
pub record Step (y : MemoryView) (ram : ℕ) (s t : Sys) (items later : List Item) (es : List Entry) : Type 0 where
  pub program : IsProgram y ram t later
  pub replays : replay s.routes (state_seen (y.view s) s items) es ≡ Some (state_seen (y.view t) t later)

-- packets that aren't the hart's come and go
neutral : (rs : List Route) (ram : ℕ) (m : Mind) (xs ys : List Packet) (bytes : List ℕ) → Awaits rs ram m xs → weigh core ys ≡ weigh core xs → weigh (bad rs ram m) ys ≡ 0
    → ((f : Packet → ℕ) → IsBlind f → weigh (on_core f) xs ≡ weigh (on_core f) ys) → Awaits rs ram m ys × (state_with rs m xs bytes ≡ state_with rs m ys bytes)
neutral rs ram m xs ys bytes now c b e =
    (record { owes = omega (arith, now.owes, c); fits = b }, same_state m.arch bytes _ _ (kept_progress rs m.doing xs ys now.owes (omega (arith, now.owes, c)) e))

module _ (y : MemoryView) (ram : ℕ) (s t : Sys) (items later : List Item) (q : ℕ) (w : Wake) (g : Face) (acts : List Act) (es : List Entry) (v : Moves) (p : IsProgram y ram s items) (same : IsElse s t q g)
    (shift : Shift (all_packets s items) (all_packets t later) v) (may : MayThink s.routes ram p.mind (faces s q) w)
    (mindless : (faces s q).mind ≡ None → Mindless s.routes ram (faces s q) g acts es v) (thinks : (faces s q).mind ≡ Some p.mind → Thinks ram p.mind (faces s q) g acts es v)
    (serves : (faces s q).mind ≡ None → MemoryStep y s.routes ram s t v.served es) (rests : (faces s q).mind ≡ Some p.mind → MemoryRests y ram s t)
    (at_once : (faces s p.cpu).instant ≡ true → weigh core (part_packets t.objects) ≡ 0) (in_time : (faces s p.cpu).instant ≡ false → weigh core (item_packets later) ≡ 0)
    (senders : weigh core (others_packets p.cpu later) ≡ 0) where
  rs : List Route
  rs = s.routes

  xs : List Packet
  xs = all_packets s items

  ys : List Packet
  ys = all_packets t later

  now : Awaits s.routes ram p.mind (all_packets s items)
  now = record { owes = p.owes; fits = p.fits }

  -- what is the same at every part but q is so of each
  kinds_now : (k : ℕ) → (k ≡ p.cpu → ⊥) → (faces t k).cpu ≡ true → (faces t p.cpu).instant ≡ false → (faces t k).instant ≡ true
  kinds_now k n c i = same.instants k ∙ p.kinds k n (sym (same.cpus k) ∙ c) (sym (same.instants p.cpu) ∙ i)

  mapped_now : (address count : ℕ) → 1 ≤ count → is_in_ram ram address count ≡ true → is_unmapped t.routes address ≡ false
  mapped_now a c l h = ap (λ r. is_unmapped r a) same.routes ∙ p.mapped a c l h

  -- the part is the active CPU
  thinks_step : q ≡ p.cpu → Thinks ram p.mind (faces s q) g acts es v → MemoryRests y ram s t → Step y ram s t items later es
  thinks_step e k z =
      let lead = thought_leads s.routes ram p.mind.arch p.mind.doing (all_packets s items) (all_packets t later) shift.stay v.made v.answered es k.after (y.view s) p.size now k.thought
      (λ f b. omega (arith, shift.before f b, ap (weigh f) k.absorbed, ap (λ x. weigh f (requests_of x)) k.served))
      (λ f b. omega (arith, shift.after f b, ap (λ x. weigh f (responses_of x)) k.served)) in
      let program : IsProgram y ram t later = record {
        cpu = p.cpu;
        mind = k.after;
        here = subst (λ j. (faces t j).mind ≡ Some k.after) e (same.mind ∙ k.mind);
        alone = λ j n. same.minds j (λ c. n (c ∙ e)) ∙ p.alone j n;
        kinds = kinds_now;
        kept = z.kept;
        size = ap length z.same ∙ p.size;
        owes = lead.awaits.owes;
        fits = subst (λ r. weigh (bad r ram k.after) (all_packets t later) ≡ 0) (sym same.routes) lead.awaits.fits;
        at_once = λ i. at_once (sym (same.instants p.cpu) ∙ i);
        in_time = λ i. in_time (sym (same.instants p.cpu) ∙ i);
        mapped = mapped_now;
        senders = senders;
      } in
      record {
        program = program;
        replays = ap (λ x. replay s.routes x es) (state_is y ram s items p) ∙ (lead.replays
            ∙ ap Some (sym (state_is y ram t later program ∙ (ap (λ r. state_with r k.after (all_packets t later) (y.view t)) same.routes
            ∙ ap (state_with s.routes k.after (all_packets t later)) z.same))));
      }

  -- the part isn't the active CPU
  mindless_step : (q ≡ p.cpu → ⊥) → Mindless s.routes ram (faces s q) g acts es v → MemoryStep y s.routes ram s t v.served es → Step y ram s t items later es
  mindless_step n k z =
      let ls : List Packet = shift.stay ++ v.made in
      let ms : List Packet = ls ++ requests_of v.served in
      let c : weigh core ms ≡ weigh core (all_packets s items) = omega (arith, shift.before core core_blind, k.made, k.answered, weigh-append core ls (requests_of v.served), weigh-append core shift.stay v.made) in
      let m = neutral s.routes ram p.mind (all_packets s items) ms (y.view s) now c
      (omega (arith, p.fits, shift.before (bad s.routes ram p.mind) (bad_blind s.routes ram p.mind), k.fits p.mind, weigh-append (bad s.routes ram p.mind) ls (requests_of v.served), weigh-append (bad s.routes ram p.mind) shift.stay v.made))
      (λ f b. omega (arith, shift.before (on_core f) (on_core-blind f b), on_core-none f v.made k.made, on_core-none f v.answered (omega (arith, k.answered)), on_core-none f v.absorbed (omega (arith, k.answered)), weigh-append (on_core f) ls (requests_of v.served), weigh-append (on_core f) shift.stay v.made)) in
      let lead = serves_leads s.routes ram p.mind ms (all_packets t later) ls v.served (y.view s) (y.view t) es p.mapped p.size m.0 z.serves
      (λ f b. weigh-append f ls (requests_of v.served)) (λ f b. omega (arith, shift.after f b, weigh-append f shift.stay v.made)) in
      let program : IsProgram y ram t later = record {
        cpu = p.cpu;
        mind = p.mind;
        here = same.minds p.cpu (λ e. n (sym e)) ∙ p.here;
        alone = λ j d. alone j d (cases_eq j q);
        kinds = kinds_now;
        kept = z.kept;
        size = lead.size;
        owes = lead.leads.awaits.owes;
        fits = subst (λ r. weigh (bad r ram p.mind) (all_packets t later) ≡ 0) (sym same.routes) lead.leads.awaits.fits;
        at_once = λ i. at_once (sym (same.instants p.cpu) ∙ i);
        in_time = λ i. in_time (sym (same.instants p.cpu) ∙ i);
        mapped = mapped_now;
        senders = senders;
      } in
      record {
        program = program;
        replays = ap (λ x. replay s.routes x es) (state_is y ram s items p ∙ m.1) ∙ (lead.leads.replays
            ∙ ap Some (sym (state_is y ram t later program ∙ ap (λ r. state_with r p.mind (all_packets t later) (y.view t)) same.routes)));
      } where
        alone : (j : ℕ) → (j ≡ p.cpu → ⊥) → (j ≡ q) ⊎ (j ≡ q → ⊥) → (faces t j).mind ≡ None
        alone j d (inl c) = subst (λ i. (faces t i).mind ≡ None) (sym c) (same.mind ∙ k.mind)
        alone j d (inr c) = same.minds j c ∙ p.alone j d

  pub program_step : Step y ram s t items later es
  program_step = by (cases_eq q p.cpu) where
    by : (q ≡ p.cpu) ⊎ (q ≡ p.cpu → ⊥) → Step y ram s t items later es
    by (inl e) = thinks_step e (thinks (ap (λ j. (faces s j).mind) e ∙ p.here)) (rests (ap (λ j. (faces s j).mind) e ∙ p.here))
    by (inr n) = mindless_step n (mindless (p.alone q n)) (serves (p.alone q n))
