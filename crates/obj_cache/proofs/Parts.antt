-- Steps of a wake that go by what the cache has: lines that serve, lines that come and go, and requests and responses.
use Rattle.std.proofs.Common.{◌≡◌, ℕ, Bool, true, false, List, [], refl, sym, ◌∙◌, ap, subst, Option, Some, None, is_some, IsTrue, length, if◌then◌else◌}
use Rattle.std.proofs.lemmas.List.{length-set}
use Rattle.std.specs.Option.{option_map}
use Rattle.cache_tags.specs.Line.{Line, in_front, come_in, leaving_line, padded, victim}
use Rattle.cache_tags.specs.declared.place.Victim.{Victim}
use Rattle.ev_queue.specs.Queue.{Queue}
use Rattle.gm_cache.specs.State.{CacheState, with_set, set_at, line_in}
use Rattle.gm_cache.specs.Rule.{CacheMoved, fits, line_after, respond, using, answering, absorbing, serving, serving_in, sending_above, noting, requesting, evicting, installing}
use Rattle.gm_words.specs.Entries.{served_entries}
use Rattle.gm_words.specs.declared.entry.Entry.{Entry}
use Rattle.obj_core.specs.Out.{Out, extended}
use Rattle.pkt_pool.specs.Packet.{is_response}
use Rattle.pkt_pool.specs.declared.cmd.Cmd.{Cmd}
use Rattle.pkt_pool.specs.declared.cmd.Cmd.TheVariants as cmds
use Rattle.pkt_pool.specs.declared.packet.Packet.{Packet}
use Rattle.obj_cache.specs.Sets.{Sets, come_to, served_in, response_by, response_in, line_in as line_of}
use Rattle.obj_cache.specs.Step.{Stands, Goes}
use Rattle.obj_cache.proofs.Steps.{followed, goes_by, state_goes, notes_goes}

-- Which packets came to be and to an end isn't kept by a cache.

-- the same step, but for those
pub but_moves : (f g : CacheMoved → CacheMoved) (s s' : CacheState) (q q' : Queue) (o o' : Out)
    → ((m : CacheMoved) → (let t : CacheMoved = record (f m) { moves = (g m).moves } in t) ≡ g m) → Goes f s s' q q' o o' → Goes g s s' q q' o o'
but_moves f g s s' q q' o o' e h = λ m q₀ o₀ st.
    let t = h m q₀ o₀ st in
    subst (λ (n : CacheMoved). Stands n q₀ o₀ s' q' o') (e m) (record { state = t.state; events = t.events; out = t.out })

-- nothing is done
pub stays_goes : (s s' : CacheState) (q : Queue) (o : Out) → s' ≡ s → Goes (λ m. m) s s' q q o o
stays_goes s s' q o e = λ m q₀ o₀ st. record { state = e ∙ st.state; events = st.events; out = st.out }

-- the state that it is after a step is told by an equation
pub arrives : (f : CacheMoved → CacheMoved) (s s₁ s₂ : CacheState) (q q' : Queue) (o o' : Out) → s₂ ≡ s₁ → Goes f s s₁ q q' o o' → Goes f s s₂ q q' o o'
arrives f s s₁ s₂ q q' o o' e h = λ m q₀ o₀ st. let t = h m q₀ o₀ st in record { state = e ∙ t.state; events = t.events; out = t.out }

-- a step that goes by the cache as it is, told by the cache before it
pub goes_for : (f : CacheState → CacheMoved → CacheMoved) (s s' : CacheState) (q q' : Queue) (o o' : Out)
    → Goes (λ m. f m.cache m) s s' q q' o o' → Goes (f s) s s' q q' o o'
goes_for f s s' q q' o o' h = λ m q₀ o₀ st. subst (λ (c : CacheState). Stands (f c m) q₀ o₀ s' q' o') (sym st.state) (h m q₀ o₀ st)

-- A line serves a request.

-- the line is the most recently used of its set
abbrev pub with_used : Line → CacheState → CacheState
with_used l s = with_set s l.address (in_front l (set_at s l.address))

uses : (l : Line) (s : CacheState) (q : Queue) (o : Out) → Goes (using l) s (with_used l s) q q o o
uses l s q o = state_goes (with_used l) s q o (λ c. refl)

-- what is noted is told of the response with the request's command
noted_same : (l : Line) (x y : Packet) (cmd : Cmd) → x.cmd ≡ cmd → y ≡ response_by l x cmd → is_response y.cmd ≡ true
    → served_entries (record y { cmd = x.cmd }) y false ≡ served_entries x y false
noted_same l x y cmds.Read c e r = rw e refl
noted_same l x y cmds.Write c e r = rw e refl
noted_same l x y cmds.WriteBack c e r = rw e refl
noted_same l x y cmds.ReadResp c e r = rw e refl
noted_same l x y cmds.WriteResp c e r = rw e refl

-- a request becomes a response, which leaves above
answering_goes : (x y : Packet) (now : ℕ) (s s' : CacheState) (q q' : Queue) (o o' : Out) → Goes (sending_above y now) s s' q q' o o
    → o' ≡ extended o [] (served_entries x y false) o.next → Goes (answering x y now) s s' q q' o o'
answering_goes x y now s s' q q' o o' h k =
    but_moves (λ m. noting (served_entries x y false) (sending_above y now m)) (answering x y now) s s' q q' o o' (λ m. refl)
    (followed (sending_above y now) (noting (served_entries x y false)) s s' s' q q' q' o o o' h (notes_goes (served_entries x y false) s' q' o o' k))

-- after a line was used
used_goes : (l : Line) (x y z : Packet) (now : ℕ) (s s' : CacheState) (q q' : Queue) (o o' : Out) → y ≡ z → Goes (sending_above y now) (with_used l s) s' q q' o o
    → o' ≡ extended o [] (served_entries x y false) o.next → Goes (λ m. answering x z now (using l m)) s s' q q' o o'
used_goes l x y z now s s' q q' o o' e h k =
    followed (using l) (answering x z now) s (with_used l s) s' q q q' o o o' (uses l s q o)
    (subst (λ (w : Packet). Goes (answering x w now) (with_used l s) s' q q' o o') e (answering_goes x y now (with_used l s) s' q q' o o' h k))

pub true_false : {A : Type 0} (b : Bool) → b ≡ true → b ≡ false → A
true_false b h k = absurd (cc)

-- the line answers, and the response leaves above
pub answers_goes : (l : Line) (x y : Packet) (cmd : Cmd) (line now : ℕ) (s s' : CacheState) (q q' : Queue) (o o' : Out) → x.cmd ≡ cmd → IsTrue (fits line x cmd)
    → y ≡ response_by l x cmd → is_response y.cmd ≡ true → Goes (sending_above y now) (with_used (line_after l x cmd) s) s' q q' o o
    → o' ≡ extended o [] (served_entries (record y { cmd = x.cmd }) y false) o.next
    → Goes (λ m. respond l x cmd now (using (line_after l x cmd) m)) s s' q q' o o'
answers_goes l x y cmds.Read line now s s' q q' o o' c i e r h k =
    used_goes l x y _ now s s' q q' o o' e h (k ∙ ap (λ (es : List Entry). extended o [] es o.next) (noted_same l x y cmds.Read c e r))
answers_goes l x y cmds.Write line now s s' q q' o o' c i e r h k =
    used_goes (line_after l x cmds.Write) x y _ now s s' q q' o o' e h (k ∙ ap (λ (es : List Entry). extended o [] es o.next) (noted_same l x y cmds.Write c e r))
answers_goes l x y cmds.WriteBack line now s s' q q' o o' c i e r h k =
    true_false (is_response y.cmd) r (ap (λ (z : Packet). is_response z.cmd) e ∙ ap is_response c)
answers_goes l x y cmds.ReadResp line now s s' q q' o o' c i e r h k = true_false false i refl
answers_goes l x y cmds.WriteResp line now s s' q q' o o' c i e r h k = true_false false i refl

-- a write-back isn't answered
pub takes_over : (l : Line) (x y : Packet) (cmd : Cmd) (line now : ℕ) (s s' : CacheState) (q : Queue) (o : Out) → x.cmd ≡ cmd → IsTrue (fits line x cmd)
    → y ≡ response_by l x cmd → is_response y.cmd ≡ false → s' ≡ with_used (line_after l x cmd) s
    → Goes (λ m. respond l x cmd now (using (line_after l x cmd) m)) s s' q q o o
takes_over l x y cmds.Read line now s s' q o c i e r h = true_false (is_response y.cmd) (ap (λ (z : Packet). is_response z.cmd) e) r
takes_over l x y cmds.Write line now s s' q o c i e r h = true_false (is_response y.cmd) (ap (λ (z : Packet). is_response z.cmd) e) r
takes_over l x y cmds.WriteBack line now s s' q o c i e r h =
    arrives _ s (with_used (line_after l x cmds.WriteBack) s) s' q q o o h
    (but_moves (using (line_after l x cmds.WriteBack)) (λ m. absorbing x (using (line_after l x cmds.WriteBack) m)) s _ q q o o (λ m. refl)
    (uses (line_after l x cmds.WriteBack) s q o))
takes_over l x y cmds.ReadResp line now s s' q o c i e r h = true_false false i refl
takes_over l x y cmds.WriteResp line now s s' q o c i e r h = true_false false i refl

-- the line that is there serves; where none is, nothing is done
pub serves_found : (l : Line) (a : ℕ) (x : Packet) (now : ℕ) (s s' : CacheState) (q q' : Queue) (o o' : Out) → line_in s a ≡ Some l
    → Goes (λ m. respond l x x.cmd now (using (line_after l x x.cmd) m)) s s' q q' o o' → Goes (serving a x now) s s' q q' o o'
serves_found l a x now s s' q q' o o' e h =
    goes_by (λ c. serving_in (line_in c a) x now) s s' q q' o o' (subst (λ (p : Option Line). Goes (serving_in p x now) s s' q q' o o') (sym e) h)

pub serves_none : (a : ℕ) (x : Packet) (now : ℕ) (s s' : CacheState) (q : Queue) (o : Out) → line_in s a ≡ None → s' ≡ s → Goes (serving a x now) s s' q q o o
serves_none a x now s s' q o e h =
    goes_by (λ c. serving_in (line_in c a) x now) s s' q q o o
    (subst (λ (p : Option Line). Goes (serving_in p x now) s s' q q o o) (sym e) (stays_goes s s' q o h))

-- A line comes.

-- the line is in its set
abbrev pub with_come : Line → CacheState → CacheState
with_come l s = with_set s l.address (come_in s.ways l (set_at s l.address))

comes_goes : (l : Line) (s : CacheState) (q : Queue) (o : Out) → Goes (λ m. let t : CacheMoved = record m { cache = with_come l m.cache } in t) s (with_come l s) q q o o
comes_goes l s q o = state_goes (with_come l) s q o (λ c. refl)

-- by what becomes of the line that leaves
pub installs_goes : (l : Line) (now : ℕ) (s s' : CacheState) (q q' : Queue) (o o' : Out)
    → Goes (evicting (leaving_line s.ways (set_at s l.address)) now) (with_come l s) s' q q' o o' → Goes (installing l now) s s' q q' o o'
installs_goes l now s s' q q' o o' h =
    goes_by (λ c m. evicting (leaving_line c.ways (set_at c l.address)) now (let t : CacheMoved = record m { cache = with_come l m.cache } in t)) s s' q q' o o'
    (followed (λ m. let t : CacheMoved = record m { cache = with_come l m.cache } in t) (evicting (leaving_line s.ways (set_at s l.address)) now)
    s (with_come l s) s' q q q' o o o' (comes_goes l s q o) h)

pub evicts_none : (v : Option Line) (now : ℕ) (s s' : CacheState) (q : Queue) (o : Out) → option_map victim v ≡ None → s' ≡ s → Goes (evicting v now) s s' q q o o
evicts_none None now s s' q o e h = stays_goes s s' q o h
evicts_none (Some v) now s s' q o e h = absurd (cc)

some_same : (v : Line) (w : Victim) → option_map victim (Some v) ≡ Some w → victim v ≡ w
some_same v w e = cc

pub evicts_clean : (v : Option Line) (w : Victim) (now : ℕ) (s s' : CacheState) (q : Queue) (o : Out) → option_map victim v ≡ Some w → w.dirty ≡ false → s' ≡ s
    → Goes (evicting v now) s s' q q o o
evicts_clean None w now s s' q o e d h = absurd (cc)
evicts_clean (Some v) w now s s' q o e d h =
    let clean : v.dirty ≡ false = ap (λ (x : Victim). x.dirty) (some_same v w e) ∙ d in
    subst (λ b. Goes (λ m. if b then requesting cmds.WriteBack v.address v.bytes now m else m) s s' q q o o) (sym clean) (stays_goes s s' q o h)

pub evicts_dirty : (v : Option Line) (w : Victim) (now : ℕ) (s s' : CacheState) (q q' : Queue) (o o' : Out) → option_map victim v ≡ Some w → w.dirty ≡ true
    → ((front : List ℕ) → padded front ≡ w.bytes → Goes (requesting cmds.WriteBack w.addr front now) s s' q q' o o') → Goes (evicting v now) s s' q q' o o'
evicts_dirty None w now s s' q q' o o' e d h = absurd (cc)
evicts_dirty (Some v) w now s s' q q' o o' e d h =
    let same = some_same v w e in
    let dirty : v.dirty ≡ true = ap (λ (x : Victim). x.dirty) same ∙ d in
    subst (λ b. Goes (λ m. if b then requesting cmds.WriteBack v.address v.bytes now m else m) s s' q q' o o') (sym dirty)
    (subst (λ a. Goes (requesting cmds.WriteBack a v.bytes now) s s' q q' o o') (sym (ap (λ (x : Victim). x.addr) same)) (h v.bytes (ap (λ (x : Victim). x.bytes) same)))

-- The lines that a cache shows are those of its sets.

abbrev pub with_sets : CacheState → Sets → CacheState
with_sets s z = record s { common = record s.common { line = z.line }; sets = length z.lines; ways = z.ways; lines = z.lines }

pub come_state : (s : CacheState) (k z : Sets) (l : Line) → z ≡ come_to k l → with_sets s z ≡ with_come l (with_sets s k)
come_state s k z l e =
    ap (with_sets s) e ∙ ap (λ n. let t : CacheState = record (with_come l (with_sets s k)) { sets = n } in t) (length-set k.lines _ _)

after_address : (l : Line) (x : Packet) (cmd : Cmd) → (line_after l x cmd).address ≡ l.address
after_address l x cmds.Read = refl
after_address l x cmds.Write = refl
after_address l x cmds.WriteBack = refl
after_address l x cmds.ReadResp = refl
after_address l x cmds.WriteResp = refl

pub used_state : (s : CacheState) (k z : Sets) (l : Line) (x : Packet) → z ≡ served_in k (Some l) x → with_sets s z ≡ with_used (line_after l x x.cmd) (with_sets s k)
used_state s k z l x e =
    ap (with_sets s) e ∙ ap (λ n. let t : CacheState = record (with_set (with_sets s k) l.address (in_front (line_after l x x.cmd) (set_at (with_sets s k) l.address))) { sets = n } in t)
    (length-set k.lines _ _)
    ∙ sym (ap (λ a. with_set (with_sets s k) a (in_front (line_after l x x.cmd) (set_at (with_sets s k) a))) (after_address l x x.cmd))

-- a line is there, or none is
pub found_by : (A : Type 0) (v : Option Line) → is_some v ≡ true → ((l : Line) → v ≡ Some l → A) → A
found_by A None e f = absurd (cc)
found_by A (Some l) e f = f l refl

pub none_by : (v : Option Line) → is_some v ≡ false → v ≡ None
none_by None e = refl
none_by (Some l) e = cc

-- A call that serves by the sets.

pub serve_answers : (s : CacheState) (k z : Sets) (a : ℕ) (x y : Packet) (now : ℕ) (s' : CacheState) (q q' : Queue) (o o' : Out) → is_some (line_of k a) ≡ true
    → z ≡ served_in k (line_of k a) x → y ≡ response_in (line_of k a) x → IsTrue (fits k.line x x.cmd) → is_response y.cmd ≡ true
    → Goes (sending_above y now) (with_sets s z) s' q q' o o → o' ≡ extended o [] (served_entries (record y { cmd = x.cmd }) y false) o.next
    → Goes (serving a x now) (with_sets s k) s' q q' o o'
serve_answers s k z a x y now s' q q' o o' e ez ey i r h ko =
    found_by (Goes (serving a x now) (with_sets s k) s' q q' o o') (line_of k a) e (λ l f. serves_found l a x now (with_sets s k) s' q q' o o' f
    (answers_goes l x y x.cmd k.line now (with_sets s k) s' q q' o o' refl i (ey ∙ ap (λ (v : Option Line). response_in v x) f) r
    (subst (λ (t : CacheState). Goes (sending_above y now) t s' q q' o o) (used_state s k z l x (ez ∙ ap (λ (v : Option Line). served_in k v x) f)) h) ko))

pub serve_takes : (s : CacheState) (k z : Sets) (a : ℕ) (x y : Packet) (now : ℕ) (q : Queue) (o : Out) → is_some (line_of k a) ≡ true
    → z ≡ served_in k (line_of k a) x → y ≡ response_in (line_of k a) x → IsTrue (fits k.line x x.cmd) → is_response y.cmd ≡ false
    → Goes (serving a x now) (with_sets s k) (with_sets s z) q q o o
serve_takes s k z a x y now q o e ez ey i r =
    found_by (Goes (serving a x now) (with_sets s k) (with_sets s z) q q o o) (line_of k a) e (λ l f. serves_found l a x now (with_sets s k) (with_sets s z) q q o o f
    (takes_over l x y x.cmd k.line now (with_sets s k) (with_sets s z) q o refl i (ey ∙ ap (λ (v : Option Line). response_in v x) f) r
    (used_state s k z l x (ez ∙ ap (λ (v : Option Line). served_in k v x) f))))

pub serve_lacks : (s : CacheState) (k z : Sets) (a : ℕ) (x : Packet) (now : ℕ) (q : Queue) (o : Out) → is_some (line_of k a) ≡ false
    → z ≡ served_in k (line_of k a) x → Goes (serving a x now) (with_sets s k) (with_sets s z) q q o o
serve_lacks s k z a x now q o e ez =
    let f = none_by (line_of k a) e in
    serves_none a x now (with_sets s k) (with_sets s z) q o f (ap (with_sets s) (ez ∙ ap (λ (v : Option Line). served_in k v x) f))
