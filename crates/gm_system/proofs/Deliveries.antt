-- However many items are delivered: the invariant is kept, what is noted is replayed, and no packet is lost.
use Rattle.std.proofs.Common.{◌≡◌, ℕ, zero, suc, List, [], ◌∷◌, ◌++◌, refl, sym, ◌∙◌, ap, subst, arith}
use Rattle.std.proofs.lemmas.List.{append-nil, append_assoc}
use Rattle.gm_model.specs.Deliver.{Item, Delivery, handle, deliver_first, deliver}
use Rattle.gm_words.specs.Replay.{replay}
use Rattle.gm_words.specs.Routes.{Route}
use Rattle.gm_words.specs.Moves.{Moves, no_moves, joined}
use Rattle.gm_model.specs.EventMoves.{first_moves, item_moves, deliver_moves}
use Rattle.gm_model.specs.Sys.{Sys}
use Rattle.gm_system.specs.MemoryView.{state_seen}
use Rattle.gm_system.specs.MemoryLaws.{MemoryLaws}
use Rattle.gm_system.specs.MemoryView.{MemoryView}
use Rattle.gm_system.specs.System.{IsSoundOver, IsWiredAlike, Handled}
use Rattle.gm_laws.proofs.Bytes.{no_entry, replay-append}
use Rattle.gm_system.proofs.Items.{handle_keeps}
use Rattle.gm_laws.proofs.Weights.{weigh-append}

-- the machine stays wired as it was
pub alike : (s t u : Sys) → IsWiredAlike s t → IsWiredAlike t u → IsWiredAlike s u
alike s t u a b = record { wires = b.wires ∙ a.wires; ways = b.ways ∙ a.ways; routes = b.routes ∙ a.routes }

module _ (y : MemoryView) (memory : MemoryLaws y) (ram : ℕ) where
  pub handled_none : (d : Delivery) → IsSoundOver y ram d.sys d.items → Handled y ram d d no_moves
  handled_none d h = record {
    sound = h;
    wiring = record { wires = refl; ways = refl; routes = refl };
    replayed = record { noted = []; entries = sym (append-nil d.entries); replays = no_entry d.sys.routes (state_seen (y.view d.sys) d.sys d.items) (state_seen (y.view d.sys) d.sys d.items) refl };
    conserved = record { same = λ f e. omega arith };
  }

  pub handled_then : (d e f : Delivery) (m n : Moves) → Handled y ram d e m → Handled y ram e f n → Handled y ram d f (joined m n)
  handled_then d e f m n a b = record {
    sound = b.sound;
    wiring = alike d.sys e.sys f.sys a.wiring b.wiring;
    replayed = record {
      noted = a.replayed.noted ++ b.replayed.noted;
      entries = b.replayed.entries ∙ (ap (λ es. es ++ b.replayed.noted) a.replayed.entries ∙ append_assoc d.entries a.replayed.noted b.replayed.noted);
      replays = replay-append d.sys.routes (state_seen (y.view d.sys) d.sys d.items) (state_seen (y.view e.sys) e.sys e.items) a.replayed.noted b.replayed.noted a.replayed.replays
          ∙ (ap (λ (rs : List Route). replay rs (state_seen (y.view e.sys) e.sys e.items) b.replayed.noted) (sym a.wiring.routes) ∙ b.replayed.replays);
    };
    conserved = record {
      same = λ h i. omega (arith, a.conserved.same h i, b.conserved.same h i, weigh-append h m.made n.made, weigh-append h m.answered n.answered, weigh-append h m.absorbed n.absorbed);
    };
  }

  pub first_keeps : (d : Delivery) (items : List Item) → d.items ≡ items → IsSoundOver y ram d.sys d.items → Handled y ram d (deliver_first d items) (first_moves d.sys items)
  first_keeps d [] e h = handled_none d h
  first_keeps d (it ∷ rest) e h =
      subst (λ xs. (let b : Delivery = record { sys = d.sys; items = xs; entries = d.entries } in Handled y ram b (handle (record d { items = rest }) it) (item_moves d.sys it))) (sym e)
      (handle_keeps y memory ram d.sys rest d.entries it (subst (IsSoundOver y ram d.sys) e h))

  -- both modes, all kinds, any number of items
  pub deliver_keeps : (n : ℕ) (d : Delivery) → IsSoundOver y ram d.sys d.items → Handled y ram d (deliver n d) (deliver_moves n d)
  unfolding deliver deliver_moves
  deliver_keeps zero d h = handled_none d h
  deliver_keeps (suc n) d h =
      let one = first_keeps d d.items refl h in
      handled_then d (deliver_first d d.items) (deliver n (deliver_first d d.items)) (first_moves d.sys d.items) (deliver_moves n (deliver_first d d.items)) one (deliver_keeps n (deliver_first d d.items) one.sound)
