-- What a step of a settling looks at: the block that it is about to reclaim, once its next one is read; nothing else.
use Rattle.std.specs.Prelude.{Option, Some, None, IsSome, Result, Ok, Err, nat_lt, ◌==◌, ◌+◌, ◌%◌, ◌^◌, if◌then◌else◌}
use Rattle.std.proofs.Common.{◌≡◌, ℕ, Bool, true, false, ◌⊎◌, inl, inr, refl, sym, subst, ap, ◌∙◌}
use Rattle.std.proofs.lemmas.Bool.{eq-eqb}
use Rattle.seize_words.specs.OneMemory.Mem.{Mem, value_at}
use Rattle.seize_words.specs.declared.fault.Fault.{Fault}
use Rattle.seize_words.specs.OneMemory.Op.{Out, Found, Stored, Exchanged, Made, Taken, Roomed}
use Rattle.seize_words.specs.OneMemory.Plan.{Plan, Then, Turn, Do, Now, Seeing, Sure, Ends, MaySee}
use Rattle.seize_words.specs.OneMemory.Word.{block_in}
use Rattle.seize.specs.declared.states.TheConstants.{HELD, NEVER, ACTIVE}
use Rattle.seize.specs.declared.rows.settle.Settle.{Settle}
use Rattle.seize.specs.declared.rows.settle.Settling.{Settling}
use Rattle.seize.specs.declared.rows.settle.Settling.TheVariants as at
use Rattle.seize.specs.declared.rows.settle.Settled.{Settled}
use Rattle.seize.specs.Settle as settle
use Rattle.seize.specs.Settle.{plan_at, drained_first}
use Rattle.seize.specs.World.{World}
use Rattle.seize_seats.specs.Seats.State.{State, view_of}
use Rattle.seize_seats.specs.Seats.Lendings.{VisibleTo}
use Rattle.seize_views.specs.Views.Promises.{LookedAreShown}
use Rattle.seize_views.specs.Views.Rows.{IsReclaiming, IsLooked, Holds}
use Rattle.seize_views.specs.Views.Told.{shown_by}
use Rattle.seize_views.specs.declared.view.SlotView.{SlotView}
use Rattle.seize_views.specs.declared.view.SlotView.TheVariants.{Settles}
use Rattle.seize_words.proofs.General.{same_some}

-- it looks at nothing
abbrev pub IsNow : {T R : Type 0} → Then T R → Type 0
IsNow (Now r) = Unit {0}
IsNow (Seeing block rest) = ⊥
IsNow (Sure fact rest) = ⊥

-- or at one block
abbrev pub LooksOnce : {T R : Type 0} → Then T R → Type 0
LooksOnce {T} (Now r) = Unit {0}
LooksOnce {T} (Seeing block rest) = (value : T) → IsNow (rest value)
LooksOnce {T} (Sure fact rest) = ⊥

module _ {T R : Type 0} where
  either : (b : Bool) (x y : Then T R) → IsNow x → IsNow y → IsNow (if b then x else y)
  either true x y p q = p
  either false x y p q = q

  now_once : (x : Then T R) → IsNow x → LooksOnce x
  now_once (Now r) is = tt
  now_once (Seeing block rest) is = absurd is
  now_once (Sure fact rest) is = absurd is

  pub now_ends : (shown shown2 : ℕ → Option T) (x : Then T R) (end : R) → IsNow x → Ends shown x end → Ends shown2 x end
  now_ends shown shown2 (Now r) end is e = e
  now_ends shown shown2 (Seeing block rest) end is e = absurd is
  now_ends shown shown2 (Sure fact rest) end is e = absurd is

  now_may : (shown : ℕ → Option T) (x : Then T R) → IsNow x → MaySee shown x
  now_may shown (Now r) is = tt
  now_may shown (Seeing block rest) is = absurd is
  now_may shown (Sure fact rest) is = absurd is

  -- what comes to an end may look at what it looks at
  pub ends_may : (shown : ℕ → Option T) (x : Then T R) (end : R) → LooksOnce x → Ends shown x end → MaySee shown x
  ends_may shown (Now r) end is e = tt
  ends_may shown (Seeing block rest) end is e = (subst (λ (o : Option T). IsSome o) (sym e.1) refl, λ value shows. now_may shown (rest value) (is value))
  ends_may shown (Sure fact rest) end is e = absurd is

  -- the end is one
  pub ends_same : (shown : ℕ → Option T) (x : Then T R) (a b : R) → Ends shown x a → Ends shown x b → a ≡ b
  ends_same shown (Now r) a b e f = e ∙ sym f
  ends_same shown (Seeing block rest) a b e f =
      let same : e.0 ≡ f.0 = same_some e.0 f.0 (sym e.1 ∙ f.1) in
      ends_same shown (rest e.0) a b e.2 (subst (λ (v : T). Ends shown (rest v) b) (sym same) f.2)
  ends_same shown (Sure fact rest) a b e f = ends_same shown rest a b e f

  -- the rest of a step that makes an operation
  abbrev pub rest_of : Plan T R → Out T → Then T R
  rest_of (Turn rest) out = rest
  rest_of (Do op rest) out = rest out

module _ {T : Type 0} (defers : T → Option ℕ) (c : Settle) where
  -- by the word that was found, or whatever was answered
  found : (f : Out T → Then T (Settle × Settled T)) → ((w : ℕ) → IsNow (f (Found w))) → IsNow (f Stored) → ((x : T) → IsNow (f (Taken x)))
      → ((r : Result ℕ ℕ) → IsNow (f (Exchanged r))) → ((r : Result ℕ T) → IsNow (f (Made r))) → ((r : Result Unit Fault) → IsNow (f (Roomed r)))
      → (out : Out T) → IsNow (f out)
  found f a b d e g k (Found w) = a w
  found f a b d e g k Stored = b
  found f a b d e g k (Taken x) = d x
  found f a b d e g k (Exchanged r) = e r
  found f a b d e g k (Made r) = g r
  found f a b d e g k (Roomed r) = k r

  -- no other step than the reading of the next block looks at any
  none_seen : (p : Settling) → (p ≡ at.Nexts → ⊥) → (out : Out T) → IsNow (rest_of (plan_at defers c p) out)
  none_seen at.Sees ne out =
      found (settle.seen c) (λ w. either (w == HELD) _ _ tt tt) tt (λ x. tt) (λ r. tt) (λ r. tt) (λ r. tt) out
  none_seen at.Holds ne out = found (settle.taken_hold c) (λ w. tt) tt (λ x. tt) (λ r. by r) (λ r. tt) (λ r. tt) out
    where
      by : (r : Result ℕ ℕ) → IsNow (settle.taken_hold {T = T} c (Exchanged r))
      by (Ok x) = tt
      by (Err x) = tt
  none_seen at.Pops ne out = found (settle.popped c) (λ w. either (c.last == 0) _ _ tt tt) tt (λ x. tt) (λ r. tt) (λ r. tt) (λ r. tt) out
  none_seen (at.Firsts block) ne out = found (settle.first_read c block) (λ w. either (block == 0) _ _ tt tt) tt (λ x. tt) (λ r. tt) (λ r. tt) (λ r. tt) out
  none_seen (at.Batches block) ne out = tt
  none_seen (at.Ends block) ne out = tt
  none_seen (at.Appends block) ne out = tt
  none_seen (at.Counts block) ne out =
      found (settle.counted c block) (λ w. either (nat_lt ((w + 1) % 2 ^ 64) c.batch_size) _ _ tt tt) tt (λ x. tt) (λ r. tt) (λ r. tt) (λ r. tt) out
  none_seen (at.Scans slot block marks) ne out =
      found (settle.scanned c slot block marks)
      (λ w. either (w == NEVER) _ _ tt (either (nat_lt w ACTIVE) _ _ tt (either (block == 0) _ _ tt tt))) tt (λ x. tt) (λ r. tt) (λ r. tt) (λ r. tt) out
  none_seen (at.Marks slot block marks) ne out = tt
  none_seen (at.Marked slot block marks) ne out = found (settle.marked_next c slot marks) (λ w. tt) tt (λ x. tt) (λ r. tt) (λ r. tt) (λ r. tt) out
  none_seen (at.Closes marks) ne out = tt
  none_seen (at.Reads block left pushed) ne out = found (settle.slot_read c block left pushed) (λ w. tt) tt (λ x. tt) (λ r. tt) (λ r. tt) (λ r. tt) out
  none_seen (at.Links block left pushed slot head) ne out = tt
  none_seen (at.Pushes block left pushed slot head) ne out =
      found (settle.after_push c block left pushed slot) (λ w. tt) tt (λ x. tt) (λ r. by r) (λ r. tt) (λ r. tt) out
    where
      by : (r : Result ℕ ℕ) → IsNow (settle.after_push {T = T} c block left pushed slot (Exchanged r))
      by (Ok x) = tt
      by (Err x) = either (settle.needs_none c x) _ _ tt tt
  none_seen (at.Pushed block left pushed) ne out = found (settle.next_pushed c left pushed) (λ w. tt) tt (λ x. tt) (λ r. tt) (λ r. tt) (λ r. tt) out
  none_seen (at.Sums pushed) ne out =
      found (settle.summed c pushed) (λ w. either ((w + pushed) % 2 ^ 64 == 0) _ _ tt tt) tt (λ x. tt) (λ r. tt) (λ r. tt) (λ r. tt) out
  none_seen at.Nexts ne out = absurd (ne refl)
  none_seen (at.Drains next word) ne out =
      found (settle.drained c next) (λ w. either (w == 0) _ _ tt (either (c.put_first == 0) _ _ tt tt)) tt (λ x. tt) (λ r. tt) (λ r. tt) (λ r. tt) out
  none_seen (at.Joins next more) ne out = tt
  none_seen (at.Tails next) ne out = found (settle.tail_read c next) (λ w. either (w == 0) _ _ tt tt) tt (λ x. tt) (λ r. tt) (λ r. tt) (λ r. tt) out
  none_seen (at.Takes next) ne out = found (settle.given_back c next) (λ w. tt) tt (λ x. tt) (λ r. tt) (λ r. tt) (λ r. tt) out
  none_seen at.Puts ne out = tt
  none_seen at.Lists ne out = found (settle.entry_read c) (λ w. tt) tt (λ x. tt) (λ r. tt) (λ r. tt) (λ r. tt) out
  none_seen (at.Owns next) ne out = found (settle.batch_read c next) (λ w. tt) tt (λ x. tt) (λ r. tt) (λ r. tt) (λ r. tt) out
  none_seen (at.Downs next batch) ne out =
      found (settle.counted_down c next batch) (λ w. either (w == 1) _ _ tt tt) tt (λ x. tt) (λ r. tt) (λ r. tt) (λ r. tt) out
  none_seen at.Gives ne out = tt
  none_seen at.Over ne out = tt

  is_nexts : (p : Settling) → (p ≡ at.Nexts) ⊎ (p ≡ at.Nexts → ⊥)
  is_nexts at.Nexts = inl refl
  is_nexts _ = inr (λ e. cc e)

  drained_now : (next : ℕ) (o : Option ℕ) → IsNow (drained_first {T = T} c next o)
  drained_now next (Some word) = tt
  drained_now next None = tt

  drained_is : (next : ℕ) (o : Option ℕ) (shown : ℕ → Option T) (end : Settle × Settled T) → Ends shown (drained_first c next o) end
      → IsReclaiming end.0.stands × (end.0.reclaiming ≡ c.reclaiming)
  drained_is next (Some word) shown end e =
      (subst (λ (x : Settle × Settled T). IsReclaiming x.0.stands) (sym e) tt, ap (λ (x : Settle × Settled T). x.0.reclaiming) e)
  drained_is next None shown end e =
      (subst (λ (x : Settle × Settled T). IsReclaiming x.0.stands) (sym e) tt, ap (λ (x : Settle × Settled T). x.0.reclaiming) e)

  nexts_once : (out : Out T) → LooksOnce (settle.next_read defers c out)
  nexts_once (Found next) = λ value. drained_now next (defers value)
  nexts_once Stored = tt
  nexts_once (Taken x) = tt
  nexts_once (Exchanged r) = tt
  nexts_once (Made r) = tt
  nexts_once (Roomed r) = tt

  -- at most one block is looked at
  pub once : (p : Settling) (out : Out T) → LooksOnce (rest_of (plan_at defers c p) out)
  once p out = elim (is_nexts p) as (λ _. LooksOnce (rest_of (plan_at defers c p) out)) [
    | inl e ↦ subst (λ (q : Settling). LooksOnce (rest_of (plan_at defers c q) out)) (sym e) (nexts_once out)
    | inr ne ↦ now_once (rest_of (plan_at defers c p) out) (none_seen p ne out)
  ]

  -- what was looked at is the block that is reclaimed next
  abbrev Looked : Mem T → Then T (Settle × Settled T) → Settle × Settled T → Type 0
  Looked m rest end = (seen : Option (ℕ × T)) × Ends (shown_by seen) rest end × IsLooked m end.0 seen

  nexts_looked : (out : Out T) (m : Mem T) (end : Settle × Settled T) → Ends (value_at m) (settle.next_read defers c out) end
      → Looked m (settle.next_read defers c out) end
  nexts_looked (Found next) m end e =
      let b : ℕ = block_in c.reclaiming in
      let seen : Option (ℕ × T) = Some (b, e.0) in
      let is = drained_is next (defers e.0) (value_at m) end e.2 in
      let same : shown_by seen b ≡ Some e.0 = ap (λ (y : Bool). if y then Some e.0 else None) (eq-eqb b b refl) in (
        seen,
        (e.0, same, now_ends (value_at m) (shown_by seen) (drained_first c next (defers e.0)) end (drained_now next (defers e.0)) e.2),
        (is.0, ap block_in (sym is.1), e.1),
      )
  nexts_looked Stored m end e = (None, e, tt)
  nexts_looked (Taken x) m end e = (None, e, tt)
  nexts_looked (Exchanged r) m end e = (None, e, tt)
  nexts_looked (Made r) m end e = (None, e, tt)
  nexts_looked (Roomed r) m end e = (None, e, tt)

  pub looked : (p : Settling) (out : Out T) (m : Mem T) (end : Settle × Settled T) → Ends (value_at m) (rest_of (plan_at defers c p) out) end
      → Looked m (rest_of (plan_at defers c p) out) end
  looked p out m end e = elim (is_nexts p) as (λ _. Looked m (rest_of (plan_at defers c p) out) end) [
    | inl is ↦
        subst (λ (q : Settling). Looked m (rest_of (plan_at defers c q) out) end) (sym is)
        (nexts_looked out m end (subst (λ (q : Settling). Ends (value_at m) (rest_of (plan_at defers c q) out) end) is e))
    | inr ne ↦ (None, now_ends (value_at m) (shown_by None) (rest_of (plan_at defers c p) out) end (none_seen p ne out) e, tt)
  ]

module _ (T : Type 0) (defers : T → Option ℕ) where
  -- what a settling is to look at is there
  pub looked_are_shown : LookedAreShown T defers
  looked_are_shown fixed id c why b left x = (there, λ y of. same_some y x (sym of.3 ∙ here of.0 of.1 of.2))
    where
      here : (t : State T (SlotView T) (World T)) → Holds defers fixed t → view_of t id ≡ Some (Settles c why (Some (b, x)) left) → value_at t.memory b ≡ Some x
      here t h at = ap (λ (m : Mem T). value_at m b) h.memory ∙ (h.seats id (Settles c why (Some (b, x)) left) at).known.2

      there : VisibleTo (Holds defers fixed) id (Settles c why (Some (b, x)) left) b
      there t h at = subst IsSome (sym (here t h at)) refl
