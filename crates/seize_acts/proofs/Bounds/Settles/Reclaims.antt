-- Each step of a settling that reclaims a batch, takes a list over, or counts an entry lowers what is left.
use Rattle.std.specs.Prelude.{if◌then◌else◌, ◌==◌, ◌/◌, ◌%◌, ◌^◌, ◌-◌, Option, Some, None, IsSome, is_some}
use Rattle.std.proofs.Common.{◌≡◌, ℕ, ◌+◌, ◌*◌, ◌≤◌, Bool, true, false, cond, List, [], ◌∷◌, ◌++◌, length, refl, arith, ap, sym, subst, ◌∙◌, append_assoc}
use Rattle.std.proofs.lemmas.Bool.{eqb-false}
use Rattle.seize_words.specs.declared.at.At.TheVariants.{Entry, Word}
use Rattle.seize_words.specs.OneMemory.Mem.{Mem, Took, value_at, word_at, with_word}
use Rattle.seize_words.specs.OneMemory.Op.{Found}
use Rattle.seize_words.specs.OneMemory.Plan.{Steps, Ends}
use Rattle.seize_words.proofs.OneMemory.OneOwner.Operations.{loaded, stored, added, taken as taken_value}
use Rattle.seize.specs.declared.states.TheConstants.{NEXT, LINK, FIRST, COUNT, LAST_SLOT}
use Rattle.seize.specs.declared.rows.settle.Settle.{Settle}
use Rattle.seize.specs.declared.rows.settle.Settling.{Settling}
use Rattle.seize.specs.declared.rows.settle.Settling.TheVariants as at
use Rattle.seize.specs.declared.rows.settle.Settled.{Settled}
use Rattle.seize.specs.declared.rows.settle.Settled.TheVariants.{Goes, Gave}
use Rattle.seize.specs.Settle as plans
use Rattle.seize_model.specs.Given.SeizeWaitingHeld.{count}
use Rattle.seize_model.proofs.Given.SeizeMovesState.Ghost.{State, Life, is_pending}
use Rattle.seize_model.proofs.Given.SeizeMovesMoves.Takes.{first_doomed}
use Rattle.seize_model.proofs.Given.SeizeMemoryWords.Named.{words_of, word_found, link-block}
use Rattle.seize_model.proofs.Given.SeizeMemoryWords.Chains.{Chain, chain_behind, chain_cons}
use Rattle.seize_model.proofs.Given.SeizeMemoryWords.View.{view}
use Rattle.seize_model.proofs.Given.SeizeMemoryWords.Shows.{Extra, CarrierIs}
use Rattle.seize_model.proofs.Given.SeizeRulePoints.Told.{Part, Plain, Pushing, Draining, part, part_at, Told, onward_part}
use Rattle.seize_model.proofs.Given.SeizeRulePoints.Known.{Drains, Joins, Tails, Downs, bare}
use Rattle.seize_acts.proofs.Bounds.Bounds.Hands.{chains_agree}
use Rattle.seize_acts.proofs.Bounds.Bounds.Knows.{known_at}
use Rattle.seize_acts.proofs.Bounds.Bounds.Machine.{MOST}
use Rattle.seize_acts.proofs.Bounds.Bounds.Moves.{taken_off}
use Rattle.seize_acts.proofs.Bounds.Bounds.Steps.{entry_less}
use Rattle.seize_acts.proofs.Bounds.Settles.Carried.{FILLING, DRAINING, COUNTING, carried, retiring, taking, owes, taken_over}
use Rattle.seize_acts.proofs.Bounds.Settles.Measure.{ahead, behind, behind_is, behind_few, point, goes_onward}
use Rattle.seize_acts.proofs.Bounds.Settles.Step.{Stepping, Less, far, far2, less, on, goes, leaves, owes_less, nothing_more}

not_pushing : Plain ≡ Pushing → ⊥
not_pushing e = cc e

-- a block is put once
pub put_once : (j : ℕ) (l : Life) (a b : ℕ) → a + b ≡ is_pending j l → b ≤ 1
put_once j l a b e = grind (arith, e)

module _ {T : Type 0} {defers : T → Option ℕ} {j : ℕ} {mem mem2 : Mem T} {m : State} {x : Extra} {c : Settle} {end : Settle × Settled T} {m2 : State} {x2 : Extra}
    (k : Stepping defers j mem mem2 m x c end m2 x2) where
  -- the next block is read, and whether this one keeps a list
  pub nexts_less : Told (LAST_SLOT + 1) j c Plain m end.0 m2 → Steps Took value_at mem (plans.nexts defers c) mem2 end → Less k at.Nexts
  nexts_less told st =
      let d = loaded mem (plans.next_read defers c) (Entry (c.reclaiming / 2048) NEXT) mem2 end st in
      let q : (value : T) × (value_at mem (c.reclaiming / 2048) ≡ Some value) × Ends (value_at mem) (plans.drained_first c d.0 (defers value)) end = d.3 in
      one d.0 (defers q.0) (owes_less k at.Nexts (λ z y. not_pushing z) told) q.2
    where
      one : (next : ℕ) (o : Option ℕ) → far2 k ≤ far k at.Nexts → Ends (value_at mem) (plans.drained_first {T = T} c next o) end → Less k at.Nexts
      one next None a e = goes k at.Nexts (at.Takes next) c e tt a (omega arith)
      one next (Some word) a e = goes k at.Nexts (at.Drains next word) c e tt a (omega arith)

  -- a list is taken over

  -- what comes off it weighs less than the block that kept it
  module _ (b : ℕ) (bs : List ℕ) (left : m.left j ≡ b ∷ bs) (word : ℕ) (lists : (view defers mem).lists b ≡ Some word) where
    keeps_one : ◌≡◌ {A = ℕ} (cond (m.carrier b) 1 0) 1
    keeps_one =
        ap {B = ℕ} (λ (t : Bool). cond t 1 0)
        (subst (λ (l : Life). CarrierIs l (m.carrier b) ((view defers mem).lists b)) (first_doomed (LAST_SLOT + 1) j m b bs k.inv left) (k.shows.lists.carriers b)
        ∙ ap is_some lists)

    heavy : (a a2 p u v t : ℕ) → v ≤ MOST → a2 + 1 ≤ a → DRAINING * a2 + FILLING * (p + v) + t + (MOST + 10) ≤ DRAINING * a + FILLING * (p + u) + t + 0
    heavy a a2 p u v t few h = omega (arith, few, h)

    -- it goes along what came off
    drained_less : (p : Settling) → part_at c.flushing p ≡ Plain → 3 ≤ point c.lost (behind (c.put_last / 2048) (m.puts j)) p
        → Told (LAST_SLOT + 1) j c (part_at c.flushing p) m end.0 m2 → (d : Settle) (next : ℕ) → end ≡ (plans.standing d (at.Tails next), Goes)
        → d.held ≡ c.held → d.flushing ≡ c.flushing → Less k p
    drained_less p plain some told d next e held flushing =
        let o = taken_over (LAST_SLOT + 1) j m m2 k.inv c (part_at c.flushing p) end.0 b bs left plain draining told in
        let one = keeps_one in
        let lists = o.lists in
        let u = behind_few (d.put_last / 2048) (m2.puts j) in
        let few = k.few_puts in
        let h = ap (λ (t : Bool). ahead t d.flushing) held ∙ ap (λ (t : Bool). ahead c.held t) flushing in
        less k p (plans.standing d (at.Tails next)) Goes e tt (MOST + 10) 0
        (subst (λ (y : Part). owes j c.slot y m2 + (MOST + 10) ≤ far k p + 0) (sym draining)
        (subst (λ (y : Part). owes j c.slot Draining m2 + (MOST + 10) ≤ owes j c.slot y m + 0) (sym plain)
        (paid o.pends o.takes (omega (arith, one, lists)))))
        (omega (arith, u, few, h, some))
      where
        draining : part end.0 ≡ Draining
        draining = ap (λ (q : Settle × Settled T). part q.0) e

        paid : m2.pending j ≡ m.pending j → taking j m2 ≡ taking j m → carried j c.slot Draining m2 + 1 ≤ carried j c.slot Plain m
            → owes j c.slot Draining m2 + (MOST + 10) ≤ owes j c.slot Plain m + 0
        paid pends takes lists =
            let a = heavy (carried j c.slot Plain m) (carried j c.slot Draining m2) (length (m.pending j)) (length (m.puts j)) (length (m2.puts j)) (taking j m)
            k.few_puts lists in
            subst (λ (l : List ℕ). DRAINING * carried j c.slot Draining m2 + FILLING * (length l + length (m2.puts j)) + taking j m2 + (MOST + 10)
            ≤ owes j c.slot Plain m + 0) (sym pends)
            (subst (λ (t : ℕ). DRAINING * carried j c.slot Draining m2 + FILLING * (length (m.pending j) + length (m2.puts j)) + t + (MOST + 10)
            ≤ owes j c.slot Plain m + 0) (sym takes) a)

  pub drains_less : (next word : ℕ) → Drains (LAST_SLOT + 1) j (view defers mem) m x (bare c) next word → Told (LAST_SLOT + 1) j c Plain m end.0 m2
      → Steps Took value_at mem (plans.drains c next word) mem2 end → Less k (at.Drains next word)
  drains_less next word r told st =
      let d = loaded mem (plans.drained c next) (Word (c.reclaiming / 2048) word) mem2 end st in
      one d.0 (d.0 == 0) (c.put_first == 0) (owes_less k (at.Drains next word) (λ z y. not_pushing z) told) d.3
    where
      one : (head : ℕ) (s t : Bool) → far2 k ≤ far k (at.Drains next word)
          → Ends (value_at mem) (if s then plans.goes {T = T} c (at.Takes next) else
          (if t then plans.to (record c { put_first = head; put_last = head; stands = at.Tails next }) else plans.goes c (at.Joins next head))) end
          → Less k (at.Drains next word)
      one head true t a e = goes k (at.Drains next word) (at.Takes next) c e tt a (omega arith)
      one head false true a e =
          drained_less r.b r.bs r.backs.left word r.lists (at.Drains next word) refl (omega arith) told (record c { put_first = head; put_last = head }) next e refl
          refl
      one head false false a e = goes k (at.Drains next word) (at.Joins next head) c e tt a (omega arith)

  pub joins_less : (next more : ℕ) → Joins (LAST_SLOT + 1) j (view defers mem) m x (bare c) next more → Told (LAST_SLOT + 1) j c Plain m end.0 m2
      → Steps Took value_at mem (plans.joins c next more) mem2 end → Less k (at.Joins next more)
  joins_less next more r told st =
      let d = stored {R = Settle × Settled T} mem (λ out. plans.to (record c { put_last = more; stands = at.Tails next })) (Entry (c.put_last / 2048) NEXT) more
      mem2 end st in
      let g = r.drains in
      drained_less g.b g.bs g.backs.left r.word g.lists (at.Joins next more) refl (omega arith) told (record c { put_last = more }) next d.1 refl refl

  -- each block that it goes along is one less

  once_puts : (d : ℕ) → count d (m.puts j) ≤ 1
  once_puts d = put_once j (m.life d) (count d (m.pending j)) (count d (m.puts j)) (k.inv.places.to_retire j d)

  tails_on : (next w : ℕ) (t : Bool) → (w == 0) ≡ t → Tails (LAST_SLOT + 1) j m x (bare c) next → words_of mem (Entry (c.put_last / 2048) NEXT) ≡ w
      → mem2 ≡ mem → Told (LAST_SLOT + 1) j c Draining m end.0 m2
      → Ends (value_at mem) (if t then plans.goes {T = T} c (at.Takes next) else plans.to (record c { put_last = w; stands = at.Tails next })) end
      → Less k (at.Tails next)
  tails_on next w true q r word same told e =
      goes k (at.Tails next) (at.Takes next) c e tt (owes_less k (at.Tails next) (λ z y. cc z) told) (omega arith)
  tails_on next w false q r word same told e =
      let f = view defers mem in
      let at_d : c.put_last / 2048 ≡ r.d = ap (λ (u : ℕ). u / 2048) r.put_last ∙ link-block r.d in
      let chain = (chain_behind 0 f.nexts (x.put_first j) r.before (r.d ∷ r.behind)
      (subst (λ (l : List ℕ). Chain 0 f.nexts (x.put_first j) l) r.puts (k.shows.lists.putted j))).2 in
      let next_is : f.nexts r.d ≡ w = ap (λ (u : ℕ). words_of mem (Entry u NEXT)) (sym at_d) ∙ word in
      let z = chain_cons 0 f.nexts (f.nexts r.d) r.behind (λ u. eqb-false w 0 q (sym next_is ∙ u)) chain in
      let all : m.puts j ≡ r.before ++ r.d ∷ z.0 ∷ z.1 = r.puts ∙ ap (λ (l : List ℕ). r.before ++ r.d ∷ l) z.2 in
      let here_is : behind (c.put_last / 2048) (m.puts j) ≡ length (z.0 ∷ z.1) =
      ap (λ (u : ℕ). behind u (m.puts j)) at_d ∙ ap (behind r.d) all
      ∙ behind_is r.d r.before (z.0 ∷ z.1) (subst (λ (l : List ℕ). count r.d l ≤ 1) all (once_puts r.d)) in
      let again : m.puts j ≡ (r.before ++ r.d ∷ []) ++ z.0 ∷ z.1 = all ∙ sym (append_assoc r.before (r.d ∷ []) (z.0 ∷ z.1)) in
      let at_e : w / 2048 ≡ z.0 = ap (λ (u : ℕ). u / 2048) (sym next_is ∙ z.4) ∙ link-block z.0 in
      let there_is : behind (w / 2048) (m2.puts j) ≡ length z.1 =
      ap (λ (u : ℕ). behind u (m2.puts j)) at_e ∙ ap (behind z.0) (puts_same next r same (ap (λ (y : Settle × Settled T). y.0.put_first) e) ∙ again)
      ∙ behind_is z.0 (r.before ++ r.d ∷ []) z.1 (subst (λ (l : List ℕ). count z.0 l ≤ 1) again (once_puts z.0)) in
      goes k (at.Tails next) (at.Tails next) (record c { put_last = w }) e tt (owes_less k (at.Tails next) (λ u y. cc u) told)
      (omega (arith, here_is, there_is))
    where
      puts_same : (next : ℕ) → Tails (LAST_SLOT + 1) j m x (bare c) next → mem2 ≡ mem → end.0.put_first ≡ c.put_first → m2.puts j ≡ m.puts j
      puts_same next r same put =
          let known = known_at (LAST_SLOT + 1) j (view defers mem2) m2 x2 end.0 end.0.stands k.fits2 in
          chains_agree 0 (omega arith) (view defers mem).nexts (view defers mem2).nexts c.put_first (m.puts j) (m2.puts j)
          (λ b p. ap (λ (q : Mem T). (view defers q).nexts b) same)
          (subst (λ (u : ℕ). Chain 0 (view defers mem).nexts u (m.puts j)) r.backs.common.put_first (k.shows.lists.putted j))
          (subst (λ (u : ℕ). Chain 0 (view defers mem2).nexts u (m2.puts j)) (known.common.put_first ∙ put) (k.shows2.lists.putted j))

  pub tails_less : (next : ℕ) → Tails (LAST_SLOT + 1) j m x (bare c) next → Told (LAST_SLOT + 1) j c Draining m end.0 m2
      → Steps Took value_at mem (plans.tails c next) mem2 end → Less k (at.Tails next)
  tails_less next r told st =
      let d = loaded mem (plans.tail_read c next) (Entry (c.put_last / 2048) NEXT) mem2 end st in
      tails_on next d.0 (d.0 == 0) refl r (word_found mem (Entry (c.put_last / 2048) NEXT) d.0 d.1) d.2 told d.3

  -- a block is taken

  pub takes_less : (next : ℕ) → c.flushing ≡ false → Told (LAST_SLOT + 1) j c Draining m end.0 m2 → Steps Took value_at mem (plans.takes c next) mem2 end
      → Less k (at.Takes next)
  takes_less next once told st =
      let d = taken_value {R = Settle × Settled T} mem (plans.given_back c next) (c.reclaiming / 2048) mem2 end st in
      one d.0 (next == 0) (c.put_first == 0) (c.pending == 0) d.3
    where
      fewer : (a a2 b b2 l l2 e e2 : ℕ) → a2 ≤ a → b2 ≤ b → l2 + 1 ≡ l → e2 ≡ e
          → DRAINING * a2 + FILLING * b2 + (6 * l2 + COUNTING * e2) + 6 ≤ DRAINING * a + FILLING * b + (6 * l + COUNTING * e) + 0
      fewer a a2 b b2 l l2 e e2 f g h i = omega (arith, f, g, h, i)

      paid : part end.0 ≡ Plain → far2 k + 6 ≤ far k (at.Takes next) + 0
      paid is =
          let a = leaves k (at.Takes next) told in
          let o = taken_off (LAST_SLOT + 1) j m m2 c Draining end.0 refl is told in
          fewer _ _ (retiring j m) (retiring j m2) (length (m.left j)) (length (m2.left j)) (length (m.loose j)) (length (m2.loose j)) a.lists
          (a.retires (λ z. absurd (cc (z, is)))) o.left (ap (length) o.loose)

      past : (d : Settle) (o : Settled T) → end ≡ (plans.onward d, o) → d.flushing ≡ c.flushing → d.held ≡ c.held → Less k (at.Takes next)
      past d o e flushing held =
          let is : part end.0 ≡ Plain = ap (λ (q : Settle × Settled T). part q.0) e ∙ onward_part d (flushing ∙ once) in
          let h = ap (λ (t : Bool). ahead t d.flushing) held ∙ ap (λ (t : Bool). ahead c.held t) flushing in
          on k (at.Takes next) d o e 6 0 (paid is) (omega (arith, h))

      one : (value : T) (t u z : Bool)
          → end ≡ (
            (if t then (if u then plans.onward (record c { reclaiming = next }) else
                (if z then plans.with_put (record c { reclaiming = next }) else record c { reclaiming = next; stands = at.Puts })) else
                plans.onward (record c { reclaiming = next })),
            Gave value,
          )
          → Less k (at.Takes next)
      one value true true z e = past (record c { reclaiming = next }) (Gave value) e refl refl
      one value true false true e =
          past (record c { reclaiming = next; pending = c.put_first; put_first = 0; put_last = 0 }) (Gave value) e refl refl
      one value true false false e =
          less k (at.Takes next) (record c { reclaiming = next; stands = at.Puts }) (Gave value) e tt 6 0
          (paid (ap (λ (q : Settle × Settled T). part q.0) e)) (omega arith)
      one value false u z e = past (record c { reclaiming = next }) (Gave value) e refl refl

  -- what was put is to be retired before the rest
  pub puts_less : Told (LAST_SLOT + 1) j c Plain m end.0 m2 → Steps Took value_at mem (plans.puts c) mem2 end → Less k at.Puts
  puts_less told st =
      let d = stored {R = Settle × Settled T} mem (λ out. plans.to (plans.with_put c)) (Entry (c.put_last / 2048) NEXT) c.pending mem2 end st in
      on k at.Puts (record c { pending = c.put_first; put_first = 0; put_last = 0 }) Goes d.1 0 0
      (nothing_more (far2 k) (far k at.Puts) (owes_less k at.Puts (λ z y. not_pushing z) told)) (omega arith)

  -- an entry is counted

  pub lists_less : Told (LAST_SLOT + 1) j c Plain m end.0 m2 → Steps Took value_at mem (plans.lists c) mem2 end → Less k at.Lists
  lists_less told st =
      let d = loaded mem (plans.entry_read c) (Entry (c.list / 2048) LINK) mem2 end st in
      goes k at.Lists (at.Owns d.0) c d.3 tt (owes_less k at.Lists (λ z y. not_pushing z) told) (omega arith)

  pub owns_less : (next : ℕ) → Told (LAST_SLOT + 1) j c Plain m end.0 m2 → Steps Took value_at mem (plans.owns c next) mem2 end → Less k (at.Owns next)
  owns_less next told st =
      let d = loaded mem (plans.batch_read c next) (Entry (c.list / 2048) FIRST) mem2 end st in
      goes k (at.Owns next) (at.Downs next d.0) c d.3 tt (owes_less k (at.Owns next) (λ z y. not_pushing z) told) (omega arith)

  module _ (next batch : ℕ) (r : Downs (LAST_SLOT + 1) j (view defers mem) m x (bare c) next batch) where
    pub downs_less : Told (LAST_SLOT + 1) j c Plain m end.0 m2 → Steps Took value_at mem (plans.downs c next batch) mem2 end → Less k (at.Downs next batch)
    downs_less told st =
        let d = added mem (plans.counted_down c next batch) (Entry (batch / 2048) COUNT) (2 ^ 64 - 1) mem2 end st in
        one ((d.0 + (2 ^ 64 - 1)) % 2 ^ 64) (d.0 == 1) (rw (d.1) refl) d.2
        (subst (λ (q : Mem T). Ends (value_at q) (plans.counted_down c next batch (Found d.0)) end) (sym d.2) d.3)
      where
        once : c.flushing ≡ false
        once = r.owns.lists.once

        fewer : (a a2 b b2 l l2 e e2 : ℕ) → a2 ≤ a → b2 ≤ b → l2 ≤ MOST → e2 + 1 ≡ e
            → DRAINING * a2 + FILLING * b2 + (6 * l2 + COUNTING * e2) + 6 ≤ DRAINING * a + FILLING * b + (6 * l + COUNTING * e) + 0
        fewer a a2 b b2 l l2 e e2 f g h i = omega (arith, f, g, h, i)

        by : (w : ℕ) → IsSome (word_at mem (Entry (batch / 2048) COUNT)) → mem2 ≡ with_word mem (Entry (batch / 2048) COUNT) w → (d : Settle) → d.list ≡ next
            → d.flushing ≡ c.flushing → d.held ≡ c.held → end ≡ (plans.onward d, Goes) → Less k (at.Downs next batch)
        by w there is d list flushing held e =
            let o = goes_onward (m2.puts j) d in
            let plain : part end.0 ≡ Plain = ap (λ (q : Settle × Settled T). part q.0) e ∙ onward_part d (flushing ∙ once) in
            let a = leaves k (at.Downs next batch) told in
            let one = entry_less defers (LAST_SLOT + 1) j mem mem2 m x c end m2 x2 k.shows k.shows2 k.fits2 next batch r w there is
            (ap (λ (q : Settle × Settled T). q.0.list) e ∙ o.list ∙ list) in
            let h = ap (λ (t : Bool). ahead t d.flushing) held ∙ ap (λ (t : Bool). ahead c.held t) flushing in
            on k (at.Downs next batch) d Goes e 6 0
            (fewer _ _ (retiring j m) (retiring j m2) (length (m.left j)) (length (m2.left j)) (length (m.loose j)) (length (m2.loose j)) a.lists
            (a.retires (λ z. absurd (cc (z, plain)))) k.few_left one) (omega (arith, h))

        one : (w : ℕ) (t : Bool) → IsSome (word_at mem (Entry (batch / 2048) COUNT)) → mem2 ≡ with_word mem (Entry (batch / 2048) COUNT) w
            → Ends (value_at mem2)
            (if t then plans.to {T = T} (plans.onward (record c { list = next; reclaiming = batch })) else plans.to
            (plans.onward (record c { list = next }))) end
            → Less k (at.Downs next batch)
        one w true there is e = by w there is (record c { list = next; reclaiming = batch }) refl refl refl e
        one w false there is e = by w there is (record c { list = next }) refl refl refl e
