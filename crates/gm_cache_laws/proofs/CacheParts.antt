-- Each part of a cache's wake keeps count of the packets, and the queues only grow in it.
use Rattle.std.proofs.Common.{◌≡◌, ℕ, ◌+◌, ◌-◌, ◌%◌, ◌==◌, ◌&&◌, List, [], ◌∷◌, ◌++◌, length, drop, take, refl, sym, ◌∙◌, ap, subst, arith, Bool, true, false, not, if◌then◌else◌, ◌⊎◌, inl, inr, Option, Some, None, append-nil, eq-eqb, ne_eqb}
use Rattle.std.proofs.lemmas.Bool.{cases_eq, and_parts, eqb-true}
use Rattle.cache_tags.specs.Line.{Line, new_line, leaving_line, come_in}
use Rattle.gm_cache.specs.State.{CacheState, Register, base_of, set_of, set_at, with_set, line_in, find_register, without_register, joined, targets_in, packets_in, answers_outlet, leaving_outlet}
use Rattle.gm_cache.specs.Rule.{CacheMoved, begun, noting, sending_above, sending_below, line_request, requesting, evicting, installing, using, line_after, answering, absorbing, respond, serving_in, serving, serving_all, with_registers, access_in, back_in, cached_in, taking, is_fill, filling, fill_in, returning, lies_in}
use Rattle.gm_cache.specs.Lines.{IsLineOf, HasSets, AreApart, HasTags, AreTargets, after_request}
use Rattle.gm_cache.proofs.RegisterLemmas.{register_here, register_past, found_register, register_facts, gone_register, register_without}
use Rattle.gm_cache.proofs.Coming.{sets_rest, installs_cache, installs_sets, installs_found, installs_apart}
use Rattle.gm_cache.proofs.Serving.{fits_of, serves_line}
use Rattle.gm_cache.proofs.Parts.{closed, line_absent}
use Rattle.gm_cache_laws.proofs.CachePorts.{Grown, grown_none, grown_tags, grown_above, grown_below, AreFlows, packets_weigh, above_weigh, below_weigh}
use Rattle.gm_laws.specs.Words.{weigh, requests_of, responses_of}
use Rattle.gm_laws.proofs.Flows.{put_silent}
use Rattle.gm_laws.proofs.Weights.{weigh-append}
use Rattle.gm_words.specs.Moves.{Service, no_moves}
use Rattle.gm_words.specs.declared.entry.Entry.{Entry}
use Rattle.gm_words.specs.declared.entry.Entry.TheVariants as entries
use Rattle.pkt_pool.specs.Packet.{is_response, carried_bytes, read_response, write_response}
use Rattle.pkt_pool.specs.declared.cmd.Cmd.{Cmd}
use Rattle.pkt_pool.specs.declared.cmd.Cmd.TheVariants as cmds
use Rattle.pkt_pool.specs.declared.packet.Packet.{Packet}

-- Weights.

requests_more : (h : Packet → ℕ) (vs : List Service) (v : Service) → weigh h (requests_of (vs ++ v ∷ [])) ≡ weigh h (requests_of vs) + h v.request
requests_more h [] v = omega arith
requests_more h (u ∷ us) v = omega (arith, requests_more h us v)

responses_more : (h : Packet → ℕ) (vs : List Service) (v : Service) → weigh h (responses_of (vs ++ v ∷ [])) ≡ weigh h (responses_of vs) + h v.response
responses_more h [] v = omega arith
responses_more h (u ∷ us) v = omega (arith, responses_more h us v)

more : (h : Packet → ℕ) (xs : List Packet) (x : Packet) → weigh h (xs ++ x ∷ []) ≡ weigh h xs + h x
more h xs x = omega (arith, weigh-append h xs (x ∷ []))

targets_joined : (h : Packet → ℕ) (a : ℕ) (x : Packet) (rs : List Register) (r : Register) → find_register a rs ≡ Some r
    → weigh h (targets_in (joined a x rs)) ≡ weigh h (targets_in rs) + h x
targets_joined h a x [] r e = absurd (cc e)
targets_joined h a x (k ∷ ks) r e = by (targets_joined h a x ks r) (cases_eq k.address a) where
  by : (find_register a ks ≡ Some r → weigh h (targets_in (joined a x ks)) ≡ weigh h (targets_in ks) + h x)
      → (k.address ≡ a) ⊎ (k.address ≡ a → ⊥)
      → weigh h (targets_in (if k.address == a then record k { targets = k.targets ++ x ∷ [] } ∷ ks else k ∷ joined a x ks))
      ≡ weigh h (k.targets ++ targets_in ks) + h x
  by next (inl f) = rw (eq-eqb k.address a f)
      (omega (arith, weigh-append h (k.targets ++ x ∷ []) (targets_in ks), more h k.targets x, weigh-append h k.targets (targets_in ks)))
  by next (inr n) = rw (ne_eqb k.address a n)
      (omega (
        arith,
        weigh-append h k.targets (targets_in (joined a x ks)),
        weigh-append h k.targets (targets_in ks),
        next (sym (register_past a k ks n) ∙ e),
      ))

targets_added : (h : Packet → ℕ) (a : ℕ) (x : Packet) (rs : List Register)
    → weigh h (targets_in (rs ++ (let r : Register = record { address = a; targets = x ∷ [] } in r) ∷ [])) ≡ weigh h (targets_in rs) + h x
targets_added h a x [] = omega arith
targets_added h a x (k ∷ ks) =
    omega (
      arith,
      weigh-append h k.targets (targets_in (ks ++ (let r : Register = record { address = a; targets = x ∷ [] } in r) ∷ [])),
      weigh-append h k.targets (targets_in ks),
      targets_added h a x ks,
    )

targets_without : (h : Packet → ℕ) (a : ℕ) (rs : List Register) (r : Register) → find_register a rs ≡ Some r
    → weigh h (targets_in (without_register a rs)) + weigh h r.targets ≡ weigh h (targets_in rs)
targets_without h a [] r e = absurd (cc e)
targets_without h a (k ∷ ks) r e = by (targets_without h a ks r) (cases_eq k.address a) where
  by : (find_register a ks ≡ Some r → weigh h (targets_in (without_register a ks)) + weigh h r.targets ≡ weigh h (targets_in ks))
      → (k.address ≡ a) ⊎ (k.address ≡ a → ⊥)
      → weigh h (targets_in (if k.address == a then ks else k ∷ without_register a ks)) + weigh h r.targets ≡ weigh h (k.targets ++ targets_in ks)
  by next (inl f) =
      let same : k ≡ r = cc (sym (register_here a k ks f) ∙ e) in
      rw (eq-eqb k.address a f) (omega (arith, weigh-append h k.targets (targets_in ks), ap (λ (j : Register). weigh h j.targets) same))
  by next (inr n) = rw (ne_eqb k.address a n)
      (omega (
        arith,
        weigh-append h k.targets (targets_in (without_register a ks)),
        weigh-append h k.targets (targets_in ks),
        next (sym (register_past a k ks n) ∙ e),
      ))

-- packets by the registers alone
registers_weigh : (h : Packet → ℕ) (s : CacheState) (rs : List Register)
    → (let t : CacheState = record s { registers = rs } in
    weigh h (packets_in t) + weigh h (targets_in s.registers) ≡ weigh h (packets_in s) + weigh h (targets_in rs))
registers_weigh h s rs =
    let t : CacheState = record s { registers = rs } in
    omega (arith, packets_weigh h s, packets_weigh h t)

-- a request lies in a line, and a response in none
request_cmd : (s : CacheState) (x : Packet) (cmd : Cmd) → lies_in s x cmd ≡ true → is_response cmd ≡ false
request_cmd s x cmds.Read e = refl
request_cmd s x cmds.Write e = refl
request_cmd s x cmds.WriteBack e = refl
request_cmd s x cmds.ReadResp e = absurd (cc e)
request_cmd s x cmds.WriteResp e = absurd (cc e)

-- Parts.

-- in a wake so far: the queues grew, nothing was asked for, and of the packets that were held and the one that came some are in hand
pub record Part (s : CacheState) (x : Packet) (hand : List Packet) (m : CacheMoved) : Type 0 where
  pub grown : Grown s m.cache m.changes
  pub silent : m.acts ≡ []
  pub kept : List Packet
  pub before : (h : Packet → ℕ) → weigh h (packets_in s) + h x
      ≡ weigh h kept + weigh h hand + weigh h m.moves.answered + weigh h m.moves.absorbed + weigh h (requests_of m.moves.served)
  pub after : (h : Packet → ℕ) → weigh h (packets_in m.cache) ≡ weigh h kept + weigh h m.moves.made + weigh h (responses_of m.moves.served)
  pub numbers : (h : Packet → ℕ) → ((y z : Packet) → y.id ≡ z.id → h y ≡ h z)
      → weigh h (responses_of m.moves.served) ≡ weigh h (requests_of m.moves.served)

module _ (s : CacheState) (x : Packet) where
  -- the packet that came is in hand
  pub begins : (next : ℕ) → AreFlows s → Part s x (x ∷ []) (begun s next)
  begins next ok = record {
    grown = grown_none s ok;
    silent = refl;
    kept = packets_in s;
    before = λ h. omega arith;
    after = λ h. omega arith;
    numbers = λ h e. refl;
  }

  -- a step of the lines alone, and what is noted
  then_tags : (hand : List Packet) (m : CacheMoved) (ls : List (List Line)) (es : List Entry) → Part s x hand m
      → Part s x hand (record m { cache = record m.cache { lines = ls }; entries = es })
  then_tags hand m ls es a = record {
    grown = grown_tags s m.cache m.changes ls m.cache.registers a.grown;
    silent = a.silent;
    kept = a.kept;
    before = a.before;
    after = a.after;
    numbers = a.numbers;
  }

  then_note : (hand : List Packet) (m : CacheMoved) (es : List Entry) → Part s x hand m → Part s x hand (noting es m)
  then_note hand m es a = then_tags hand m m.cache.lines (m.entries ++ es) a

  silent_above : (m : CacheMoved) (y : Packet) (now : ℕ) → m.acts ≡ [] → (sending_above y now m).acts ≡ []
  silent_above m y now e =
      ap (λ zs. m.acts ++ zs) (put_silent answers_outlet y (now + m.cache.latency) m.cache.answers.items m.cache.answers.out) ∙ (append-nil m.acts ∙ e)

  silent_below : (m : CacheMoved) (y : Packet) (now : ℕ) → m.acts ≡ [] → (sending_below y now m).acts ≡ []
  silent_below m y now e =
      ap (λ zs. m.acts ++ zs) (put_silent leaving_outlet y (now + m.cache.latency) m.cache.leaving.items m.cache.leaving.out) ∙ (append-nil m.acts ∙ e)

  -- a packet in hand passes
  then_pass_above : (m : CacheMoved) (y : Packet) (now : ℕ) (rest : List Packet) → is_response y.cmd ≡ true → Part s x (y ∷ rest) m
      → Part s x rest (sending_above y now m)
  then_pass_above m y now rest e a = record {
    grown = grown_above s m.cache m.changes y (now + m.cache.latency) e a.grown;
    silent = silent_above m y now a.silent;
    kept = y ∷ a.kept;
    before = λ h. omega (arith, a.before h);
    after = λ h. omega (arith, a.after h, above_weigh h m.cache y (now + m.cache.latency));
    numbers = a.numbers;
  }

  then_pass_below : (m : CacheMoved) (y : Packet) (now : ℕ) (rest : List Packet) → is_response y.cmd ≡ false → Part s x (y ∷ rest) m
      → Part s x rest (sending_below y now m)
  then_pass_below m y now rest e a = record {
    grown = grown_below s m.cache m.changes y (now + m.cache.latency) (ap not e) a.grown;
    silent = silent_below m y now a.silent;
    kept = y ∷ a.kept;
    before = λ h. omega (arith, a.before h);
    after = λ h. omega (arith, a.after h, below_weigh h m.cache y (now + m.cache.latency));
    numbers = a.numbers;
  }

  -- one in hand is served
  then_answer : (m : CacheMoved) (q y : Packet) (now : ℕ) (rest : List Packet) → is_response y.cmd ≡ true → y.id ≡ q.id → Part s x (q ∷ rest) m
      → Part s x rest (answering q y now m)
  then_answer m q y now rest e same a =
      let v : Service = record { request = q; response = y } in
      record {
        grown = grown_above s m.cache m.changes y (now + m.cache.latency) e a.grown;
        silent = silent_above m y now a.silent;
        kept = a.kept;
        before = λ h. omega (arith, a.before h, requests_more h m.moves.served v);
        after = λ h. omega (arith, a.after h, above_weigh h m.cache y (now + m.cache.latency), responses_more h m.moves.served v);
        numbers = λ h blind. omega (arith, a.numbers h blind, blind y q same, requests_more h m.moves.served v, responses_more h m.moves.served v);
      }

  -- one in hand is taken over
  then_absorb : (m : CacheMoved) (y : Packet) (rest : List Packet) → Part s x (y ∷ rest) m → Part s x rest (absorbing y m)
  then_absorb m y rest a = record {
    grown = a.grown;
    silent = a.silent;
    kept = a.kept;
    before = λ h. omega (arith, a.before h, more h m.moves.absorbed y);
    after = a.after;
    numbers = a.numbers;
  }

  -- a request is made
  then_request : (hand : List Packet) (m : CacheMoved) (cmd : Cmd) (a : ℕ) (bytes : List ℕ) (now : ℕ) → is_response cmd ≡ false → Part s x hand m
      → Part s x hand (requesting cmd a bytes now m)
  then_request hand m cmd a bytes now e p =
      let y : Packet = line_request m.cache m.next cmd a bytes in
      record {
        grown = grown_below s m.cache m.changes y (now + m.cache.latency) (ap not e) p.grown;
        silent = silent_below m y now p.silent;
        kept = p.kept;
        before = p.before;
        after = λ h. omega (arith, p.after h, below_weigh h m.cache y (now + m.cache.latency), more h m.moves.made y);
        numbers = p.numbers;
      }

  -- one in hand waits for a line
  then_join : (m : CacheMoved) (a : ℕ) (y : Packet) (rest : List Packet) (r : Register) → find_register a m.cache.registers ≡ Some r
      → Part s x (y ∷ rest) m → Part s x rest (with_registers (joined a y m.cache.registers) m)
  then_join m a y rest r e p = record {
    grown = grown_tags s m.cache m.changes m.cache.lines (joined a y m.cache.registers) p.grown;
    silent = p.silent;
    kept = y ∷ p.kept;
    before = λ h. omega (arith, p.before h);
    after = λ h. omega (arith, p.after h, registers_weigh h m.cache (joined a y m.cache.registers), targets_joined h a y m.cache.registers r e);
    numbers = p.numbers;
  }

  then_open : (m : CacheMoved) (a : ℕ) (y : Packet) (rest : List Packet) → Part s x (y ∷ rest) m
      → Part s x rest (with_registers (m.cache.registers ++ record { address = a; targets = y ∷ [] } ∷ []) m)
  then_open m a y rest p =
      let rs : List Register = m.cache.registers ++ record { address = a; targets = y ∷ [] } ∷ [] in
      record {
        grown = grown_tags s m.cache m.changes m.cache.lines rs p.grown;
        silent = p.silent;
        kept = y ∷ p.kept;
        before = λ h. omega (arith, p.before h);
        after = λ h. omega (arith, p.after h, registers_weigh h m.cache rs, targets_added h a y m.cache.registers);
        numbers = p.numbers;
      }

  -- a line comes in, and another may be written back
  then_evict : (hand : List Packet) (o : Option Line) (now : ℕ) (m : CacheMoved) → Part s x hand m → Part s x hand (evicting o now m)
  then_evict hand None now m a = a
  then_evict hand (Some v) now m a = by v.dirty where
    by : (b : Bool) → Part s x hand (if b then requesting cmds.WriteBack v.address v.bytes now m else m)
    by true = then_request hand m cmds.WriteBack v.address v.bytes now refl a
    by false = a

  then_install : (hand : List Packet) (l : Line) (now : ℕ) (m : CacheMoved) → Part s x hand m → Part s x hand (installing l now m)
  then_install hand l now m a =
      let k : CacheMoved = record m { cache = with_set m.cache l.address (come_in m.cache.ways l (set_at m.cache l.address)) } in
      then_evict hand (leaving_line m.cache.ways (set_at m.cache l.address)) now k (then_tags hand m k.cache.lines m.entries a)

  -- a line serves one in hand
  then_respond : (l : Line) (y : Packet) (cmd : Cmd) (now : ℕ) (m : CacheMoved) (rest : List Packet) → is_response cmd ≡ false → Part s x (y ∷ rest) m
      → Part s x rest (respond l y cmd now m)
  then_respond l y cmds.Read now m rest e a = then_answer m y (read_response y (take y.size (drop (y.addr - l.address) l.bytes))) now rest refl refl a
  then_respond l y cmds.Write now m rest e a = then_answer m y (write_response y) now rest refl refl a
  then_respond l y cmds.WriteBack now m rest e a = then_absorb m y rest a
  then_respond l y cmds.ReadResp now m rest e a = absurd (cc e)
  then_respond l y cmds.WriteResp now m rest e a = absurd (cc e)

  then_serve : (l : Line) (y : Packet) (now : ℕ) (m : CacheMoved) (rest : List Packet) → is_response y.cmd ≡ false → Part s x (y ∷ rest) m
      → Part s x rest (serving_in (Some l) y now m)
  then_serve l y now m rest e a =
      let k : CacheMoved = using (line_after l y y.cmd) m in
      then_respond l y y.cmd now k rest e (then_tags (y ∷ rest) m k.cache.lines m.entries a)

  -- and all that wait for it
  then_serve_all : (l : Line) (ys : List Packet) (now : ℕ) (m : CacheMoved) → HasSets m.cache → AreApart m.cache → line_in m.cache l.address ≡ Some l
      → AreTargets m.cache l.address ys → Part s x ys m → Part s x [] (serving_all l.address ys now m)
  unfolding serving_all
  then_serve_all l [] now m ok apart there fits a = a
  then_serve_all l (y ∷ ys) now m ok apart there fits a =
      let k = after_request l y y.cmd in
      let t = serving_in (Some l) y now m in
      let same : k.address ≡ l.address = request_address l y y.cmd in
      let f = fits_of m.cache l.address y fits.0 in
      let d = serves_line m l y y.cmd now ok apart there f in
      let targets : AreTargets t.cache k.address ys =
      subst (λ (c : CacheState). AreTargets c k.address ys) (sym d.rest) (subst (λ b. AreTargets m.cache b ys) (sym same) fits.1) in
      let e : serving l.address y now m ≡ t = ap (λ o. serving_in o y now m) there in
      subst (λ (n : CacheMoved). Part s x [] (serving_all l.address ys now n)) (sym e)
      (subst (λ b. Part s x [] (serving_all b ys now t)) same
      (then_serve_all k ys now t d.sets d.apart (subst (λ b. line_in t.cache b ≡ Some k) (sym same) d.found) targets
      (then_serve l y now m ys (request_cmd m.cache y y.cmd f.0) a))) where
        request_address : (j : Line) (z : Packet) (cmd : Cmd) → (after_request j z cmd).address ≡ j.address
        request_address j z cmds.Read = refl
        request_address j z cmds.Write = refl
        request_address j z cmds.ReadResp = refl
        request_address j z cmds.WriteResp = refl
        request_address j z cmds.WriteBack = refl

  -- an access from above
  then_access : (a now : ℕ) (o : Option Line) (r : Option Register) (m : CacheMoved) → is_response x.cmd ≡ false
      → find_register a m.cache.registers ≡ r → Part s x (x ∷ []) m → Part s x [] (access_in a x now o r m)
  then_access a now (Some l) r m e f p =
      then_serve l x now (noting (entries.Hit (record { 0 = m.cache.common.object }) ∷ []) m) [] e
      (then_note (x ∷ []) m (entries.Hit (record { 0 = m.cache.common.object }) ∷ []) p)
  then_access a now None (Some r) m e f p =
      then_join (noting (entries.Miss (record { 0 = m.cache.common.object }) ∷ []) m) a x [] r f
      (then_note (x ∷ []) m (entries.Miss (record { 0 = m.cache.common.object }) ∷ []) p)
  then_access a now None None m e f p =
      let n = noting (entries.Miss (record { 0 = m.cache.common.object }) ∷ []) m in
      then_request [] (with_registers (n.cache.registers ++ record { address = a; targets = x ∷ [] } ∷ []) n) cmds.Read a [] now refl
      (then_open n a x [] (then_note (x ∷ []) m (entries.Miss (record { 0 = m.cache.common.object }) ∷ []) p))

  -- a write-back from above
  then_back : (a now : ℕ) (o : Option Line) (r : Option Register) (m : CacheMoved) → is_response x.cmd ≡ false
      → find_register a m.cache.registers ≡ r → Part s x (x ∷ []) m → Part s x [] (back_in a x now o r m)
  then_back a now (Some l) r m e f p = then_serve l x now m [] e p
  then_back a now None (Some r) m e f p = then_join m a x [] r f p
  then_back a now None None m e f p = then_install [] (new_line a true (carried_bytes x)) now (absorbing x m) (then_absorb m x [] p)

  then_cached : (a : ℕ) (now : ℕ) (cmd : Cmd) (m : CacheMoved) → is_response x.cmd ≡ false → is_response cmd ≡ false → Part s x (x ∷ []) m
      → Part s x [] (cached_in a x now cmd m)
  then_cached a now cmds.Read m e c p = then_access a now (line_in m.cache a) (find_register a m.cache.registers) m e refl p
  then_cached a now cmds.Write m e c p = then_access a now (line_in m.cache a) (find_register a m.cache.registers) m e refl p
  then_cached a now cmds.WriteBack m e c p = then_back a now (line_in m.cache a) (find_register a m.cache.registers) m e refl p
  then_cached a now cmds.ReadResp m e c p = absurd (cc c)
  then_cached a now cmds.WriteResp m e c p = absurd (cc c)

  -- a request from above that is taken
  pub then_take : (now : ℕ) (u : Bool) (m : CacheMoved) → is_response x.cmd ≡ false → Part s x (x ∷ []) m → Part s x [] (taking x now u m)
  then_take now true m e p = then_cached (base_of m.cache x.addr) now x.cmd m e e p
  then_take now false m e p = then_pass_below m x now [] e p

  -- the register of a line is closed: who waited is in hand, in place of the response
  closes : (next : ℕ) (r : Register) → AreFlows s → find_register x.addr s.registers ≡ Some r
      → Part s x r.targets (closed x.addr (record no_moves { answered = x ∷ [] }) (begun s next))
  closes next r ok there =
      let t : CacheState = record s { registers = without_register x.addr s.registers } in
      record {
        grown = grown_tags s s [] s.lines (without_register x.addr s.registers) (grown_none s ok);
        silent = refl;
        kept = packets_in t;
        before = λ h. omega (arith, registers_weigh h s (without_register x.addr s.registers), targets_without h x.addr s.registers r there);
        after = λ h. omega arith;
        numbers = λ h e. refl;
      }

  -- a line that was asked for comes
  fills : (next now : ℕ) (r : Register) → AreFlows s → HasTags s → is_fill s x ≡ true → find_register x.addr s.registers ≡ Some r
      → Part s x [] (fill_in x now (Some r) (begun s next))
  fills next now r ok tags whole there =
      let c : CacheMoved = closed x.addr (record no_moves { answered = x ∷ [] }) (begun s next) in
      let l : Line = new_line x.addr false (carried_bytes x) in
      let none : line_in s x.addr ≡ None = line_absent s x.addr r tags.apart there in
      let free : find_register x.addr (without_register x.addr s.registers) ≡ None = gone_register s x.addr s.registers tags.registers.each in
      let sets : HasSets c.cache = sets_rest s (without_register x.addr s.registers) s.answers s.leaving s.waiter tags.sets in
      let t = installing l now c in
      let fits : AreTargets s x.addr r.targets =
      subst (λ a. AreTargets s a r.targets) (found_register x.addr s.registers r there) (register_facts s x.addr s.registers r tags.registers.each there).3 in
      let targets : AreTargets t.cache x.addr r.targets =
      subst (λ (k : CacheState). AreTargets k x.addr r.targets) (sym (installs_cache l now c sets none is)) fits in
      subst (λ o. Part s x [] (filling x r.targets now o c)) (sym none)
      (then_serve_all l r.targets now t (installs_sets l now c sets none is) (installs_apart l now c sets none is apart free)
      (installs_found l now c sets none is) targets
      (then_install r.targets l now c (closes next r ok there))) where
        is : IsLineOf s (set_of s x.addr) (new_line x.addr false (carried_bytes x))
        is =
            let p = and_parts (not x.uncached && (length (carried_bytes x) == s.common.line)) (x.addr % s.common.line == 0) whole in
            let q = and_parts (not x.uncached) (length (carried_bytes x) == s.common.line) p.0 in
            (refl, eqb-true (x.addr % s.common.line) 0 p.1, eqb-true (length (carried_bytes x)) s.common.line q.1)

        apart : (a : ℕ) (j : Line) → line_in s a ≡ Some j → find_register a (without_register x.addr s.registers) ≡ None
        apart a j h = by (cases_eq x.addr a) where
          by : (x.addr ≡ a) ⊎ (x.addr ≡ a → ⊥) → find_register a (without_register x.addr s.registers) ≡ None
          by (inl e) = subst (λ b. find_register b (without_register x.addr s.registers) ≡ None) e (gone_register s x.addr s.registers tags.registers.each)
          by (inr n) = register_without a x.addr s.registers n ∙ tags.apart a j h

  -- a response from below
  pub then_return : (next now : ℕ) (u : Bool) → AreFlows s → HasTags s → is_response x.cmd ≡ true → is_fill s x ≡ u
      → Part s x [] (returning x now u (begun s next))
  then_return next now false ok tags e f = then_pass_above (begun s next) x now [] e (begins next ok)
  then_return next now true ok tags e f = by (find_register x.addr s.registers) refl where
    by : (o : Option Register) → find_register x.addr s.registers ≡ o → Part s x [] (fill_in x now o (begun s next))
    by None g = then_pass_above (begun s next) x now [] e (begins next ok)
    by (Some r) g = fills next now r ok tags f g
