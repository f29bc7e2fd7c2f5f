-- A line that is there serves requests.
use Rattle.std.proofs.Common.{◌≡◌, ℕ, ◌+◌, ◌-◌, ◌%◌, ◌<◌, ◌≤◌, ◌⊎◌, inl, inr, true, false, not, ◌==◌, List, [], ◌∷◌, ◌++◌, length, Some, None, refl, sym, ◌∙◌, ap, subst, arith, append-nil, append_assoc, length-append, length-take, length-drop, slice_index_or}
use Rattle.std.proofs.lemmas.Bool.{cases_eq, and_parts, eqb-true, leb-true}
use Rattle.std.proofs.lemmas.List.{drop_all}
use Rattle.cache_tags.specs.Line.{Line, without_line, put_at, new_line}
use Rattle.gm_cache.specs.State.{CacheState, base_of, set_of, set_at, with_set, find_line, find_register, line_in}
use Rattle.gm_cache.specs.Rule.{CacheMoved, is_cached, lies_in, line_after, using, respond, serving_in, serving, serving_all}
use Rattle.gm_cache.specs.Lines.{LineView, line_view, requests, line_state, state_in, view_of, AreLines, IsLineOf, HasSets, IsTarget, AreTargets, AreApart, noted_by, after_request, after_requests, noted_by_all}
use Rattle.gm_cache.proofs.SetLemmas.{set_same, set_other, find_here, find_past, find_without, gone_line, lines_without, length-without, line_facts}
use Rattle.gm_cache.proofs.Coming.{sets_with, sets_rest}
use Rattle.gm_words.specs.declared.entry.Entry.{Entry}
use Rattle.pkt_pool.specs.Packet.{carried_bytes}
use Rattle.pkt_pool.specs.declared.cmd.Cmd.{Cmd}
use Rattle.pkt_pool.specs.declared.cmd.Cmd.TheVariants as cmds
use Rattle.pkt_pool.specs.declared.packet.Packet.{Packet}

-- A line after a request.

-- a request lies in the line at an address, by its command
abbrev pub Fits : CacheState → ℕ → Packet → Cmd → Type 0
Fits s a x cmd = (lies_in s x cmd ≡ true) × (base_of s x.addr ≡ a)

pub fits_of : (s : CacheState) (a : ℕ) (x : Packet) → IsTarget s a x → Fits s a x x.cmd
fits_of s a x h = ((and_parts (not x.uncached) (lies_in s x x.cmd) h.0).1, h.1)

-- a response lies in no line
pub no_response : (s : CacheState) (x : Packet) (cmd : Cmd) → x.cmd ≡ cmd → lies_in s x cmd ≡ false → is_cached s x ≡ true → ⊥
no_response s x cmd c h u = cc (sym h, subst (λ k. lies_in s x k ≡ true) c (fits_of s (base_of s x.addr) x (u, refl)).0)

length-put_at : (bytes : List ℕ) (offset : ℕ) (others : List ℕ) → offset + length others ≤ length bytes → length (put_at bytes offset others) ≡ length bytes
length-put_at bytes offset others h = simp (length-append, length-take, length-drop) (omega arith)

put_whole : (bytes : List ℕ) (offset : ℕ) (others : List ℕ) → offset ≡ 0 → length others ≡ length bytes → put_at bytes offset others ≡ others
put_whole bytes offset others e h =
    ap (λ n. put_at bytes n others) e
    ∙ (ap (λ xs. others ++ xs) (drop_all (0 + length others) bytes (omega arith)) ∙ append-nil others)

-- where a request begins in its line
offset_of : (s : CacheState) (a : ℕ) (x : Packet) → 0 < s.common.line → base_of s x.addr ≡ a → x.addr - a ≤ x.addr % s.common.line
offset_of s a x some e = omega arith

-- a write-back lies in a line only as the whole line
back_parts : (s : CacheState) (a : ℕ) (x : Packet) → Fits s a x cmds.WriteBack → (x.addr % s.common.line ≡ 0) × (length (carried_bytes x) ≡ s.common.line)
back_parts s a x f =
    let p = and_parts (x.addr % s.common.line == 0) (length (carried_bytes x) == s.common.line) f.0 in
    (eqb-true (x.addr % s.common.line) 0 p.0, eqb-true (length (carried_bytes x)) s.common.line p.1)

pub back_whole : (s : CacheState) (a : ℕ) (x : Packet) → Fits s a x cmds.WriteBack → length (carried_bytes x) ≡ s.common.line
back_whole s a x f = (back_parts s a x f).1

-- a request's line keeps its address and its length
pub after_address : (l : Line) (x : Packet) (cmd : Cmd) → (line_after l x cmd).address ≡ l.address
after_address l x cmds.Read = refl
after_address l x cmds.Write = refl
after_address l x cmds.ReadResp = refl
after_address l x cmds.WriteResp = refl
after_address l x cmds.WriteBack = refl

pub after_length : (s : CacheState) (l : Line) (x : Packet) (cmd : Cmd) → 0 < s.common.line → length l.bytes ≡ s.common.line → Fits s l.address x cmd
    → length (line_after l x cmd).bytes ≡ s.common.line
after_length s l x cmds.Read some e f = e
after_length s l x cmds.Write some e f =
    length-put_at l.bytes (x.addr - l.address) (carried_bytes x)
    (omega (arith, offset_of s l.address x some f.1, leb-true (x.addr % s.common.line + length (carried_bytes x)) s.common.line f.0, e)) ∙ e
after_length s l x cmds.ReadResp some e f = e
after_length s l x cmds.WriteResp some e f = e
after_length s l x cmds.WriteBack some e f =
    let p = back_parts s l.address x f in
    length-put_at l.bytes (x.addr - l.address) (carried_bytes x) (omega (arith, offset_of s l.address x some f.1, p.0, p.1, e)) ∙ e

-- it is the line that the laws say
pub after_same : (s : CacheState) (l : Line) (x : Packet) (cmd : Cmd) → 0 < s.common.line → length l.bytes ≡ s.common.line → Fits s l.address x cmd
    → line_after l x cmd ≡ after_request l x cmd
after_same s l x cmds.Read some e f = refl
after_same s l x cmds.Write some e f = refl
after_same s l x cmds.ReadResp some e f = refl
after_same s l x cmds.WriteResp some e f = refl
after_same s l x cmds.WriteBack some e f =
    let p = back_parts s l.address x f in
    ap (new_line l.address true) (put_whole l.bytes (x.addr - l.address) (carried_bytes x) (omega (arith, offset_of s l.address x some f.1, p.0)) (p.1 ∙ sym e))

request_address : (l : Line) (x : Packet) (cmd : Cmd) → (after_request l x cmd).address ≡ l.address
request_address l x cmds.Read = refl
request_address l x cmds.Write = refl
request_address l x cmds.ReadResp = refl
request_address l x cmds.WriteResp = refl
request_address l x cmds.WriteBack = refl

-- What is answered.

-- a response changes nothing but the answers
pub respond_cache : (l : Line) (x : Packet) (cmd : Cmd) (now : ℕ) (m : CacheMoved)
    → (respond l x cmd now m).cache ≡ record m.cache { answers = (respond l x cmd now m).cache.answers }
respond_cache l x cmds.Read now m = refl
respond_cache l x cmds.Write now m = refl
respond_cache l x cmds.ReadResp now m = refl
respond_cache l x cmds.WriteResp now m = refl
respond_cache l x cmds.WriteBack now m = refl

pub respond_entries : (l : Line) (x : Packet) (cmd : Cmd) (now : ℕ) (m : CacheMoved) → (respond l x cmd now m).entries ≡ m.entries ++ noted_by l x cmd
respond_entries l x cmds.Read now m = refl
respond_entries l x cmds.Write now m = refl
respond_entries l x cmds.ReadResp now m = sym (append-nil m.entries)
respond_entries l x cmds.WriteResp now m = sym (append-nil m.entries)
respond_entries l x cmds.WriteBack now m = sym (append-nil m.entries)

-- A line comes to the front of its set, in place of what it was.

module _ (s : CacheState) (ok : HasSets s) (apart : AreApart s) (l k : Line) (same : k.address ≡ l.address)
    (there : line_in s l.address ≡ Some l) (is : IsLineOf s (set_of s k.address) k) where
  lines_at : AreLines s (set_of s k.address) (k ∷ without_line k.address (set_at s k.address))
  lines_at = (
    is,
    gone_line s (set_of s k.address) k.address (set_at s k.address) (ok.each (set_of s k.address)),
    lines_without s (set_of s k.address) k.address (set_at s k.address) (ok.each (set_of s k.address)),
  )

  there_k : line_in s k.address ≡ Some l
  there_k = subst (λ a. line_in s a ≡ Some l) (sym same) there

  pub used_sets : HasSets (with_set s k.address (k ∷ without_line k.address (set_at s k.address)))
  used_sets =
      sets_with s k.address (k ∷ without_line k.address (set_at s k.address)) ok lines_at
      (omega (arith, length-without k.address (set_at s k.address) l there_k, ok.few (set_of s k.address)))

  pub used_found : line_in (with_set s k.address (k ∷ without_line k.address (set_at s k.address))) l.address ≡ Some k
  used_found =
      ap (find_line l.address) (set_same s ok k.address (k ∷ without_line k.address (set_at s k.address)) l.address (ap (set_of s) (sym same)))
      ∙ find_here l.address k (without_line k.address (set_at s k.address)) same

  pub used_other : (b : ℕ) → (l.address ≡ b → ⊥) → line_in (with_set s k.address (k ∷ without_line k.address (set_at s k.address))) b ≡ line_in s b
  used_other b n = by (cases_eq (set_of s b) (set_of s k.address)) where
    not_k : k.address ≡ b → ⊥
    not_k e = n (sym same ∙ e)

    by : (set_of s b ≡ set_of s k.address) ⊎ (set_of s b ≡ set_of s k.address → ⊥)
        → find_line b (set_at (with_set s k.address (k ∷ without_line k.address (set_at s k.address))) b) ≡ find_line b (set_at s b)
    by (inl e) =
        ap (find_line b) (set_same s ok k.address (k ∷ without_line k.address (set_at s k.address)) b e)
        ∙ (find_past b k (without_line k.address (set_at s k.address)) not_k
        ∙ (find_without b k.address (set_at s k.address) not_k ∙ ap (λ i. find_line b (slice_index_or s.lines i [])) (sym e)))
    by (inr e) = ap (find_line b) (set_other s ok k.address (k ∷ without_line k.address (set_at s k.address)) b e)

  pub used_apart : AreApart (with_set s k.address (k ∷ without_line k.address (set_at s k.address)))
  used_apart b j h = by (cases_eq l.address b) where
    by : (l.address ≡ b) ⊎ (l.address ≡ b → ⊥) → find_register b s.registers ≡ None
    by (inl e) = subst (λ a. find_register a s.registers ≡ None) e (apart l.address l there)
    by (inr n) = apart b j (sym (used_other b n) ∙ h)

-- A line serves.

-- what serving requests of a line does: the line is another afterwards, and each other line's view stays
pub record ServesLine (m : CacheMoved) (l after : Line) (noted : List Entry) (t : CacheMoved) : Type 0 where
  pub own : view_of t.cache l.address ≡ line_view (line_state after) (view_of m.cache l.address).sent
  pub other : (a : ℕ) → (l.address ≡ a → ⊥) → view_of t.cache a ≡ view_of m.cache a
  pub found : line_in t.cache l.address ≡ Some after
  pub sets : HasSets t.cache
  pub apart : AreApart t.cache
  pub rest : t.cache ≡ (let s : CacheState = record m.cache { lines = t.cache.lines; answers = t.cache.answers } in s)
  pub entries : t.entries ≡ m.entries ++ noted

-- one request
pub serves_line : (m : CacheMoved) (l : Line) (x : Packet) (cmd : Cmd) (now : ℕ) → HasSets m.cache → AreApart m.cache → line_in m.cache l.address ≡ Some l
    → Fits m.cache l.address x cmd → ServesLine m l (after_request l x cmd) (noted_by l x cmd) (respond l x cmd now (using (line_after l x cmd) m))
unfolding view_of
serves_line m l x cmd now ok apart there fits =
    let k = line_after l x cmd in
    let u = using k m in
    let t = respond l x cmd now u in
    let same : k.address ≡ l.address = after_address l x cmd in
    let old : IsLineOf m.cache (set_of m.cache l.address) l =
    line_facts m.cache (set_of m.cache l.address) l.address (set_at m.cache l.address) l (ok.each (set_of m.cache l.address)) there in
    let is : IsLineOf m.cache (set_of m.cache k.address) k =
    (refl, ap (λ a. a % m.cache.common.line) same ∙ old.1, after_length m.cache l x cmd ok.some_bytes old.2 fits) in
    let c = respond_cache l x cmd now u in
    let found = used_found m.cache ok apart l k same there is in
    subst (λ j. ServesLine m l j (noted_by l x cmd) t) (after_same m.cache l x cmd ok.some_bytes old.2 fits)
    (record {
      own =
          ap (λ (s : CacheState). view_of s l.address) c
          ∙ ap (λ o. line_view (state_in o (find_register l.address m.cache.registers)) (requests m.cache l.address m.cache.leaving.items)) found;
      other = λ a n.
          ap (λ (s : CacheState). view_of s a) c
          ∙ ap (λ o. line_view (state_in o (find_register a m.cache.registers)) (requests m.cache a m.cache.leaving.items))
          (used_other m.cache ok apart l k same there is a n);
      found = ap (λ (s : CacheState). line_in s l.address) c ∙ found;
      sets = subst HasSets (sym c) (sets_rest u.cache u.cache.registers t.cache.answers u.cache.leaving u.cache.waiter
          (used_sets m.cache ok apart l k same there is));
      apart = subst AreApart (sym c) (used_apart m.cache ok apart l k same there is);
      rest = c ∙ ap (λ ls. let s : CacheState = record m.cache { lines = ls; answers = t.cache.answers } in s) (sym (ap (λ (s : CacheState). s.lines) c));
      entries = respond_entries l x cmd now u;
    })

own_view : (s : CacheState) (l : Line) → line_in s l.address ≡ Some l → view_of s l.address ≡ line_view (line_state l) (view_of s l.address).sent
unfolding view_of
own_view s l h = ap (λ o. line_view (state_in o (find_register l.address s.registers)) (requests s l.address s.leaving.items)) h

then_serves : (m : CacheMoved) (l k j : Line) (es fs : List Entry) (t u : CacheMoved) → k.address ≡ l.address → ServesLine m l k es t → ServesLine t k j fs u
    → ServesLine m l j (es ++ fs) u
then_serves m l k j es fs t u same a b =
    record {
      own =
          subst (λ c. view_of u.cache c ≡ line_view (line_state j) (view_of t.cache c).sent) same b.own
          ∙ ap (λ (v : LineView). line_view (line_state j) v.sent) a.own;
      other = λ c n. b.other c (λ e. n (sym same ∙ e)) ∙ a.other c n;
      found = subst (λ c. line_in u.cache c ≡ Some j) same b.found;
      sets = b.sets;
      apart = b.apart;
      rest = b.rest ∙ ap (λ (s : CacheState). let c : CacheState = record s { lines = u.cache.lines; answers = u.cache.answers } in c) a.rest;
      entries = b.entries ∙ (ap (λ xs. xs ++ fs) a.entries ∙ append_assoc m.entries es fs);
    }

-- and requests in order
pub serves_all : (m : CacheMoved) (l : Line) (xs : List Packet) (now : ℕ) → HasSets m.cache → AreApart m.cache → line_in m.cache l.address ≡ Some l
    → AreTargets m.cache l.address xs → ServesLine m l (after_requests l xs) (noted_by_all l xs) (serving_all l.address xs now m)
unfolding serving_all
serves_all m l [] now ok apart there fits =
    record {
      own = own m there;
      other = λ a n. refl;
      found = there;
      sets = ok;
      apart = apart;
      rest = refl;
      entries = sym (append-nil m.entries);
    } where
      own : (n : CacheMoved) → line_in n.cache l.address ≡ Some l → view_of n.cache l.address ≡ line_view (line_state l) (view_of n.cache l.address).sent
      own n h = own_view n.cache l h
serves_all m l (x ∷ xs) now ok apart there fits =
    let k = after_request l x x.cmd in
    let t = respond l x x.cmd now (using (line_after l x x.cmd) m) in
    let same : k.address ≡ l.address = request_address l x x.cmd in
    let a = serves_line m l x x.cmd now ok apart there (fits_of m.cache l.address x fits.0) in
    let targets : AreTargets t.cache k.address xs =
    subst (λ (s : CacheState). AreTargets s k.address xs) (sym a.rest) (subst (λ c. AreTargets m.cache c xs) (sym same) fits.1) in
    let b = serves_all t k xs now a.sets a.apart (subst (λ c. line_in t.cache c ≡ Some k) (sym same) a.found) targets in
    let e : serving l.address x now m ≡ t = ap (λ o. serving_in o x now m) there in
    subst (λ (n : CacheMoved). ServesLine m l (after_requests l (x ∷ xs)) (noted_by_all l (x ∷ xs)) (serving_all l.address xs now n)) (sym e)
    (then_serves m l k (after_requests k xs) (noted_by l x x.cmd) (noted_by_all k xs) t (serving_all l.address xs now t) same a
    (subst (λ c. ServesLine t k (after_requests k xs) (noted_by_all k xs) (serving_all c xs now t)) same b))
