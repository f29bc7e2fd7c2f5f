-- The lines of a cache, as its tags keep them and as contracts see them.
use Rattle.std.proofs.Common.{◌≡◌, ℕ, zero, suc, ◌+◌, ◌-◌, ◌*◌, ◌/◌, ◌%◌, ◌<◌, ◌≤◌, ◌==◌, true, false, List, [], ◌∷◌, length, take, drop, map, replicate, refl, sym, ◌∙◌, ap, subst, arith, eq-eqb, ne_eqb, Option, Some, None, ◌⊎◌, inl, inr}
use Rattle.std.specs.Prelude.{count_by, is_some, IfSome, slice_get, slice_index_or, slice_set}
use Rattle.std.specs.Option.{option_map}
use Rattle.std.proofs.lemmas.Bool.{cases_eq}
use Rattle.std.proofs.lemmas.Option.{slice_get-map}
use Rattle.std.proofs.lemmas.List.{length-map, set-set, get_or-set_same}
use Rattle.std.proofs.lemmas.List.Sums.{sum_by-cons}
use Rattle.std.proofs.lemmas.Nat.{div-add-mod', div-mul-add, mod-mul-add}
use Rattle.cache_tags.specs.declared.place.Place.{Place}
use Rattle.cache_tags.specs.Line.{Line, rewritten, without_line, in_front, in_place}
use Rattle.cache_tags.specs.Held.{Held, of_address}
use Rattle.cache_tags.specs.Held.{line_info as kept_info}
use Rattle.cache_tags.specs.declared.place.LineAt.{LineAt}
use Rattle.obj_core.specs.Lines.{line_info}
use Rattle.obj_core.specs.declared.line_info.LineInfo.{LineInfo}
use Rattle.obj_cache.specs.Commands.{told}
use Rattle.cache_tags.specs.Kept.{Kept, base_of, lines_at, lines_of, with_lines, line_of, line_at, found, touched, written, empty, emptied, IsSoundCache}
use Rattle.cache_tags.specs.Kept as kept
use Rattle.cache_tags.proofs.Counts.{bit}
use Rattle.cache_tags.proofs.PlainLemmas.{plain}
use Rattle.cache_tags.proofs.StoreLemmas.{place_within}
use Rattle.cache_tags.proofs.PlaceLemmas.{after_touch_lines, after_touch_places, after_write_lines}
use Rattle.gm_cache.specs.State.{find_line}
use Rattle.gm_cache.specs.Rule.{line_after}
use Rattle.gm_cache.proofs.SetLemmas.{found_line}
use Rattle.gm_model.specs.Xbar.{read_of}
use Rattle.pkt_pool.specs.Packet.{carried_bytes, read_response}
use Rattle.pkt_pool.specs.declared.cmd.Cmd.{Cmd}
use Rattle.pkt_pool.specs.declared.cmd.Cmd.TheVariants as cmds
use Rattle.pkt_pool.specs.declared.packet.Packet.{Packet}
use Rattle.obj_cache.specs.Sets.{Sets, nth_in, set_at, set_of, line_in, served_in, response_by, response_in, bytes_in}
use Rattle.obj_cache.specs.LinesKept.{shown, served_at}

-- No line.

none_lines : (n : ℕ) → map (λ (hs : List Held). plain hs) (replicate n []) ≡ replicate n []
none_lines zero = refl
none_lines (suc n) = ap (λ xs. [] ∷ xs) (none_lines n)

pub started : (t : Kept) (n ways line : ℕ) → t ≡ empty n ways line → shown t ≡ record { ways = ways; line = line; lines = replicate n [] }
started t n ways line e = rw e (ap (λ ls. let s : Sets = record { ways = ways; line = line; lines = ls } in s) (none_lines n))

pub cleared : (t t' : Kept) → t' ≡ emptied t → shown t' ≡ record (shown t) { lines = replicate (length (lines_of t)) [] }
cleared t t' e =
    rw e (ap (λ ls. let s : Sets = record { ways = t.ways; line = t.line; lines = ls } in s)
    (none_lines (length t.sets) ∙ ap (λ n. replicate n []) (sym (length-map t.sets (λ (hs : List Held). plain hs)))))

-- The line of an address.

lines_in : (sets : List (List Held)) (i : ℕ) → slice_index_or (map (λ (hs : List Held). plain hs) sets) i [] ≡ plain (slice_index_or sets i [])
lines_in [] i = refl
lines_in (hs ∷ sets) zero = refl
lines_in (hs ∷ sets) (suc i) = lines_in sets i

-- the set of an address
set_lines : (t : Kept) (a : ℕ) → set_at (shown t) a ≡ lines_at t (kept.set_of t a)
set_lines t a =
    ap (λ n. slice_index_or (lines_of t) ((a / t.line) % n) []) (length-map t.sets (λ (hs : List Held). plain hs)) ∙ lines_in t.sets (kept.set_of t a)

-- the line that begins at an address
pub line_shown : (t : Kept) (a : ℕ) → a % t.line ≡ 0 → line_in (shown t) a ≡ line_of t a
line_shown t a e =
    let here : a ≡ base_of t a = omega (arith, e) in
    ap (find_line a) (set_lines t a) ∙ ap (λ b. find_line b (lines_at t (kept.set_of t a))) here

-- an address is in the set of its line
same_quotient : (a n : ℕ) → 0 < n → (a - a % n) / n ≡ a / n
same_quotient a n some =
    let e : a - a % n ≡ a / n * n + 0 = omega (arith, div-add-mod' a n) in
    ap (λ x. x / n) e ∙ div-mul-add (a / n) n 0 some

-- the line that an address lies in
pub line_around : (t : Kept) (a : ℕ) → 0 < t.line → line_in (shown t) (base_of t a) ≡ line_of t a
line_around t a some =
    ap (find_line (base_of t a)) (set_lines t (base_of t a))
    ∙ ap (λ q. find_line (base_of t a) (lines_at t (q % length t.sets))) (same_quotient a t.line some)

pub line_address : (t : Kept) (a : ℕ) (l : Line) → line_of t a ≡ Some l → l.address ≡ base_of t a
line_address t a l e = found_line (base_of t a) (lines_at t (kept.set_of t a)) l e

-- the place of a line is in the set of its address
pub place_set : (t : Kept) (a : ℕ) (p : Place) → Some p ≡ found t a → p.set ≡ kept.set_of t a
place_set t a p e = by (of_address (base_of t a) (kept.set_at t (kept.set_of t a))) e where
  by : (o : Option Held) → Some p ≡ option_map (λ h. let q : Place = record { set = kept.set_of t a; way = h.way } in q) o → p.set ≡ kept.set_of t a
  by None f = absurd cc
  by (Some h) f = let q : Place = record { set = kept.set_of t a; way = h.way } in let same : p ≡ q = cc in ap (λ (x : Place). x.set) same

-- A line that is the first is changed.

place_absent : (r : Line) (hs : List Held) → count_by (λ h. h.line.address == r.address) hs ≡ 0 → in_place r (plain hs) ≡ plain hs
place_absent r [] none = refl
place_absent r (h ∷ hs) none = by (place_absent r hs) (cases_eq h.line.address r.address) where
  all : count_by (λ h. h.line.address == r.address) (h ∷ hs) ≡ bit (h.line.address == r.address) + count_by (λ h. h.line.address == r.address) hs
  all = sum_by-cons (λ (h : Held). bit (h.line.address == r.address)) h hs

  by : (count_by (λ h. h.line.address == r.address) hs ≡ 0 → in_place r (plain hs) ≡ plain hs) → (h.line.address ≡ r.address) ⊎ (h.line.address ≡ r.address → ⊥)
      → in_place r (plain (h ∷ hs)) ≡ plain (h ∷ hs)
  by more (inl e) = let one : bit (h.line.address == r.address) ≡ 1 = rw (eq-eqb h.line.address r.address e) refl in absurd (omega (arith, one, all, none))
  by more (inr n) = rw (ne_eqb h.line.address r.address n) (ap (λ ks. h.line ∷ ks) (more (omega (arith, all, none))))

-- the others have other addresses
place_rest : (r : Line) (hs : List Held) → count_by (λ h. h.line.address == r.address) hs ≤ 1
    → in_place r (without_line r.address (plain hs)) ≡ without_line r.address (plain hs)
place_rest r [] one = refl
place_rest r (h ∷ hs) one = by (place_rest r hs) (cases_eq h.line.address r.address) where
  all : count_by (λ h. h.line.address == r.address) (h ∷ hs) ≡ bit (h.line.address == r.address) + count_by (λ h. h.line.address == r.address) hs
  all = sum_by-cons (λ (h : Held). bit (h.line.address == r.address)) h hs

  by : (count_by (λ h. h.line.address == r.address) hs ≤ 1 → in_place r (without_line r.address (plain hs)) ≡ without_line r.address (plain hs))
      → (h.line.address ≡ r.address) ⊎ (h.line.address ≡ r.address → ⊥)
      → in_place r (without_line r.address (plain (h ∷ hs))) ≡ without_line r.address (plain (h ∷ hs))
  by more (inl e) =
      let one' : bit (h.line.address == r.address) ≡ 1 = rw (eq-eqb h.line.address r.address e) refl in
      rw (eq-eqb h.line.address r.address e) (place_absent r hs (omega (arith, one', all, one)))
  by more (inr n) =
      rw (ne_eqb h.line.address r.address n) (rw (ne_eqb h.line.address r.address n) (ap (λ ks. h.line ∷ ks) (more (omega (arith, all, one)))))

front_changed : (l r : Line) (hs : List Held) → l.address ≡ r.address → count_by (λ h. h.line.address == r.address) hs ≤ 1
    → in_place r (in_front l (plain hs)) ≡ in_front r (plain hs)
front_changed l r hs e one =
    ap (λ a. in_place r (l ∷ without_line a (plain hs))) e ∙ rw (eq-eqb l.address r.address e) (ap (λ ks. r ∷ ks) (place_rest r hs one))

-- A line serves a request.

module _ (t : Kept) (ok : IsSoundCache t) (p : Place) (l : Line) (here : line_at t p ≡ Some l) (ok' : IsSoundCache (touched t p)) where
  -- it is used
  used_first : lines_of (touched t p) ≡ with_lines t p.set (in_front l (lines_at t p.set))
  used_first = rw here at (after_touch_lines t (touched t p) ok p refl)

  stays : line_at (touched t p) p ≡ Some l
  stays = after_touch_places t (touched t p) ok p refl (ap is_some here) p ∙ here

  first : lines_at (touched t p) p.set ≡ in_front l (lines_at t p.set)
  first =
      sym (lines_in (touched t p).sets p.set)
      ∙ (ap (λ xs. slice_index_or xs p.set []) used_first
      ∙ get_or-set_same (lines_of t) p.set (in_front l (lines_at t p.set)) []
      (omega (arith, place_within t p (ap is_some here), length-map t.sets (λ (hs : List Held). plain hs))))

  -- and changed
  changed_first : (offset : ℕ) (bytes : List ℕ)
      → lines_of (written (touched t p) p offset bytes) ≡ with_lines t p.set (in_front (rewritten l offset bytes) (lines_at t p.set))
  changed_first offset bytes =
      rw stays at (after_write_lines (touched t p) (written (touched t p) p offset bytes) ok' p offset bytes refl)
      ∙ (ap (λ xs. slice_set xs p.set (in_place (rewritten l offset bytes) (lines_at (touched t p) p.set))) used_first
      ∙ (set-set (lines_of t) p.set (in_front l (lines_at t p.set)) (in_place (rewritten l offset bytes) (lines_at (touched t p) p.set))
      ∙ ap (with_lines t p.set)
      (ap (in_place (rewritten l offset bytes)) first
      ∙ front_changed l (rewritten l offset bytes) (kept.set_at t p.set) refl ((ok.sound p.set).one_line l.address))))

  served_first : (x : Packet) (cmd : Cmd)
      → lines_of (served_at (touched t p) p (x.addr - l.address) x cmd) ≡ with_lines t p.set (in_front (line_after l x cmd) (lines_at t p.set))
  served_first x cmds.Read = used_first
  served_first x cmds.Write = changed_first (x.addr - l.address) (carried_bytes x)
  served_first x cmds.WriteBack = changed_first (x.addr - l.address) (carried_bytes x)
  served_first x cmds.ReadResp = used_first
  served_first x cmds.WriteResp = used_first

  sizes_stay : (offset : ℕ) (x : Packet) (cmd : Cmd)
      → shown (served_at (touched t p) p offset x cmd) ≡ record (shown t) { lines = lines_of (served_at (touched t p) p offset x cmd) }
  sizes_stay offset x cmds.Read = refl
  sizes_stay offset x cmds.Write = refl
  sizes_stay offset x cmds.WriteBack = refl
  sizes_stay offset x cmds.ReadResp = refl
  sizes_stay offset x cmds.WriteResp = refl

  after_address : (x : Packet) (cmd : Cmd) → (line_after l x cmd).address ≡ l.address
  after_address x cmds.Read = refl
  after_address x cmds.Write = refl
  after_address x cmds.WriteBack = refl
  after_address x cmds.ReadResp = refl
  after_address x cmds.WriteResp = refl

  pub served_shown : (x : Packet) (a : ℕ) → l.address ≡ a → p.set ≡ kept.set_of t a
      → shown (served_at (touched t p) p (x.addr - a) x x.cmd) ≡ served_in (shown t) (Some l) x
  served_shown x a e s =
      let number : p.set ≡ set_of (shown t) l.address =
      s ∙ (ap (kept.set_of t) (sym e) ∙ ap (λ n. (l.address / t.line) % n) (sym (length-map t.sets (λ (hs : List Held). plain hs)))) in
      let lines : lines_at t p.set ≡ set_at (shown t) l.address = sym (lines_in t.sets p.set) ∙ ap (λ i. slice_index_or (lines_of t) i []) number in
      ap (λ b. shown (served_at (touched t p) p (x.addr - b) x x.cmd)) (sym e)
      ∙ (sizes_stay (x.addr - l.address) x x.cmd
      ∙ ap (λ ls. let q : Sets = record { ways = t.ways; line = t.line; lines = ls } in q)
      (served_first x x.cmd ∙ (ap (λ ls. slice_set (lines_of t) p.set (in_front (line_after l x x.cmd) ls)) lines
      ∙ ap (λ i. slice_set (lines_of t) i (in_front (line_after l x x.cmd) (set_at (shown t) l.address))) number)))

-- what a call has served
pub record Served (t v : Kept) (a : ℕ) (x y : Packet) : Type 0 where
  pub served : true ≡ is_some (line_in (shown t) a)
  pub lines : shown v ≡ served_in (shown t) (line_in (shown t) a) x
  pub packet : y ≡ response_in (line_in (shown t) a) x

-- a line begins at a multiple of its size
aligned : (a b n : ℕ) → 0 < n → b - b % n ≡ a → a % n ≡ 0
aligned a b n some own =
    let e : a ≡ b / n * n + 0 = omega (arith, own, div-add-mod' b n) in
    ap (λ x. x % n) e ∙ mod-mul-add (b / n) n 0 some

pub serve_there : (t u v : Kept) (a : ℕ) (p : Place) (x y : Packet) → IsSoundCache t → 0 < t.line → x.addr - x.addr % t.line ≡ a
    → Some p ≡ found t a → is_some (line_at t p) ≡ true → line_at t p ≡ line_of t a → u ≡ touched t p → IsSoundCache u
    → v ≡ served_at u p (x.addr - a) x x.cmd → IfSome (line_at u p) (λ l. l.address ≡ a → y ≡ response_by l x x.cmd) → Served t v a x y
serve_there t u v a p x y ok some own at there same used ok' served answered = by (line_at t p) refl where
  by : (o : Option Line) → line_at t p ≡ o → Served t v a x y
  by None e = let none : is_some (line_at t p) ≡ false = ap is_some e in absurd (cc (none, there))
  by (Some l) e =
      let begins : a % t.line ≡ 0 = aligned a x.addr t.line some own in
      let of : line_of t a ≡ Some l = sym same ∙ e in
      let here : line_in (shown t) a ≡ Some l = line_shown t a begins ∙ of in
      let base : base_of t a ≡ a = omega (arith, begins) in
      let address : l.address ≡ a = line_address t a l of ∙ base in
      let stays : line_at u p ≡ Some l = after_touch_places t u ok p used there p ∙ e in
      record {
        served = sym (ap is_some here);
        lines = ap shown served ∙ (ap (λ k. shown (served_at k p (x.addr - a) x x.cmd)) used
            ∙ (served_shown t ok p l e (subst IsSoundCache used ok') x a address (place_set t a p at) ∙ ap (λ o. served_in (shown t) o x) (sym here)));
        packet = (rw stays at answered) address ∙ ap (λ o. response_in o x) (sym here);
      }

-- it isn't there
pub serve_lacks : (t : Kept) (a : ℕ) (x : Packet) → 0 < t.line → x.addr - x.addr % t.line ≡ a → line_of t a ≡ None → line_in (shown t) a ≡ None
serve_lacks t a x some own none = line_shown t a (aligned a x.addr t.line some own) ∙ none

-- A read without time.

-- the bytes of a line from an address on
pub record HasRead (t : Kept) (x y : Packet) : Type 0 where
  pub answered : true ≡ is_some (bytes_in (shown t) x.addr x.size)
  pub packet : y ≡ read_of x (bytes_in (shown t) x.addr x.size)

-- where it lies in its line
left : (a n : ℕ) → a - (a - a % n) ≡ a % n
left a n = omega (arith, div-add-mod' a n)

pub read_there : (t : Kept) (p : Place) (bytes : List ℕ) (x y : Packet) → 0 < t.line → line_at t p ≡ line_of t x.addr
    → option_map (λ l. l.bytes) (line_at t p) ≡ Some bytes → length bytes ≡ t.line
    → y ≡ read_response x (take x.size (drop (x.addr % length bytes) bytes)) → HasRead t x y
read_there t p bytes x y some same has whole answer = by (line_of t x.addr) refl (sym (ap (option_map (λ (l : Line). l.bytes)) same) ∙ has) where
  by : (o : Option Line) → line_of t x.addr ≡ o → option_map (λ (l : Line). l.bytes) o ≡ Some bytes → HasRead t x y
  by None e f = absurd cc
  by (Some l) e f =
      let here : line_in (shown t) (base_of t x.addr) ≡ Some l = line_around t x.addr some ∙ e in
      let b : l.bytes ≡ bytes = cc in
      let rest : x.addr - l.address ≡ x.addr % length bytes =
      ap (λ n. x.addr - n) (line_address t x.addr l e) ∙ (left x.addr t.line ∙ ap (λ n. x.addr % n) (sym whole)) in
      let read : bytes_in (shown t) x.addr x.size ≡ Some (take x.size (drop (x.addr % length bytes) bytes)) =
      rw (here, bytes_in) (ap (λ n. Some (take x.size (drop n l.bytes))) rest ∙ ap (λ bs. Some (take x.size (drop (x.addr % length bytes) bs))) b) in
      record { answered = sym (ap is_some read); packet = answer ∙ ap (read_of x) (sym read) }

pub read_lacks : (t : Kept) (a count : ℕ) → 0 < t.line → line_of t a ≡ None → bytes_in (shown t) a count ≡ None
read_lacks t a count some none = rw (line_around t a some ∙ none, bytes_in) refl

-- The n-th line of a set.

nth_shown : (t : Kept) (set n : ℕ) → nth_in (shown t) set n ≡ option_map (λ (h : Held). h.line) (slice_get (kept.set_at t set) n)
nth_shown t set n = ap (λ ls. slice_get ls n) (lines_in t.sets set) ∙ slice_get-map (λ (h : Held). h.line) (kept.set_at t set) n

-- what is told of it
pub nth_told : (t : Kept) (set n : ℕ) (l : LineAt) → Some l ≡ kept.nth_line t set n
    → option_map (λ (l : Line). line_info (told set l)) (nth_in (shown t) set n) ≡ Some (record { set = set; addr = l.addr; dirty = l.dirty })
nth_told t set n l e = ap (option_map (λ (l : Line). line_info (told set l))) (nth_shown t set n) ∙ by (slice_get (kept.set_at t set) n) e where
  same : (l k : LineAt) → Some l ≡ Some k → k ≡ l
  same l k e = cc

  by : (v : Option Held) → Some l ≡ option_map (kept_info set) v
      → option_map (λ (l : Line). line_info (told set l)) (option_map (λ (h : Held). h.line) v) ≡ Some (record { set = set; addr = l.addr; dirty = l.dirty })
  by None e = absurd (cc)
  by (Some h) e = ap (λ (k : LineAt). let i : LineInfo = record { set = set; addr = k.addr; dirty = k.dirty } in Some i) (same l (kept_info set h) e)

pub nth_none : (t : Kept) (set n : ℕ) → kept.nth_line t set n ≡ None → nth_in (shown t) set n ≡ None
nth_none t set n e = nth_shown t set n ∙ by (slice_get (kept.set_at t set) n) e where
  by : (v : Option Held) → option_map (kept_info set) v ≡ None → option_map (λ (h : Held). h.line) v ≡ None
  by None e = refl
  by (Some h) e = absurd (cc)
