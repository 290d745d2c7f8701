-- A step of a row that retires one block does nothing else than to retire it: until it tells its batch of it, it has it in hand; with that it is told; then it has none.
use Rattle.std.specs.Prelude.{◌≡◌, ◌≢◌, ℕ, ◌==◌, nat_lt, Option, Some, None, Ok, Err, Bool, true, false, List, [], ◌∷◌, if◌then◌else◌}
use Rattle.std.proofs.Common.{refl, ap, sym, subst, ◌∙◌, arith, eqb-true}
use Rattle.std.proofs.lemmas.Bool.{ne_eqb}
use Rattle.run_places.specs.Given.SeizeWordsDeclared.at.At.{At}
use Rattle.run_places.specs.Given.SeizeWordsDeclared.at.At.TheVariants as name
use Rattle.run_places.specs.Given.SeizeWordsOp.{Op, Out, Load, Store, Swap, Add, Or, Exchange, Make, Take, Rewrite, Room, Found, Exchanged}
use Rattle.run_places.specs.Given.SeizeWordsMem.{Mem, value_at, word_at}
use Rattle.run_places.specs.Given.SeizeWordsPlan.{Plan, Then, Turn, Do, Now, Seeing, Sure, Ends}
use Rattle.run_places.specs.Given.SeizeWordsWord.{block_in}
use Rattle.run_places.specs.Given.SeizeDeclared.states.TheConstants.{HELD, ACTIVE, FIRST}
use Rattle.run_places.specs.Given.SeizeDeclared.rows.settle.Settle.{Settle}
use Rattle.run_places.specs.Given.SeizeDeclared.rows.settle.Settled.{Settled}
use Rattle.run_places.specs.Given.SeizeDeclared.rows.settle.Settling.{Settling}
use Rattle.run_places.specs.Given.SeizeDeclared.rows.settle.Settling.TheVariants as at
use Rattle.run_places.specs.Given.SeizeDeclared.rows.settle.Settled.TheVariants as settled
use Rattle.run_places.specs.Given.SeizeSettle as plans
use Rattle.run_places.specs.Given.TablesNodes.{deferred_word}
use Rattle.run_places.specs.Given.TablesDeclared.node.Node.{Node}
use Rattle.run_places.specs.Given.RunsDeclared.effect.Effect.{Effect}
use Rattle.run_places.specs.Given.RunsDeclared.effect.Effect.TheVariants as effect
use Rattle.run_places.specs.Given.RunsDeclared.effect.Thing.TheVariants.{APair, ATable}
use Rattle.run_places.specs.Given.TellerTells.{observed_of, StepsObserved}
use Rattle.run_places.specs.Given.EffectsDeclared.changed.Changed.{Changed}
use Rattle.run_places.specs.Given.EffectsDeclared.changed.Changed.TheVariants as changed
use Rattle.run_places.specs.Given.TellsSeen.{word_or, seen_of}
use Rattle.run_places.specs.Given.EffectsEffects.{effects_of, batched, names_same}
use Rattle.run_places.specs.Given.EffectsKnown.{Known}
use Rattle.run_places.specs.Given.EffectsDeclared.acting.Acting.TheVariants as acts
use Rattle.run_places.specs.Given.EffectsDeclared.role.Role.{Role}
use Rattle.run_places.specs.Given.EffectsDeclared.role.Role.TheVariants as role
use Rattle.run_places.specs.Hands.Rows.{IsAside, SettlesAside}
use Rattle.run_debts.specs.Due.{ToRetire, due_in_settle, retired_effects, RowTells, TellsNone, TellsRetired}
use Rattle.run_debts.specs.Entries.{IsBlank, OneAt}
use Rattle.run_debts.proofs.EntrySettles.{goes_one}
use Rattle.run_places.proofs.Given.ScenesTold.{as_step}

-- what is told of words of entries

-- a word that is none that tells of a batch, and none of users
abbrev pub IsQuiet : At → Type 0
IsQuiet (name.Entry b field) = field ≡ FIRST → ⊥
IsQuiet (name.Slot s field) = Unit {0}
IsQuiet _ = ⊥

abbrev pub IsQuietOp : {T : Type 0} → Op T → Type 0
IsQuietOp (Load at) = Unit {0}
IsQuietOp (Store at word) = IsQuiet at
IsQuietOp (Swap at word) = IsQuiet at
IsQuietOp (Add at by) = IsQuiet at
IsQuietOp (Or at bits) = IsQuiet at
IsQuietOp (Exchange at before word) = IsQuiet at
IsQuietOp _ = ⊥

abbrev pub IsQuietPlan : {T R : Type 0} → Plan T R → Type 0
IsQuietPlan (Turn rest) = Unit {0}
IsQuietPlan (Do op rest) = IsQuietOp op

module _ (caller map : ℕ) (known : Known) where
  abbrev pub effects_by : Changed → List Effect
  effects_by told = effects_of (acts.Call caller map) known told

  batched_none : (field : ℕ) (r : Role) → (field ≡ FIRST → ⊥) → batched (acts.Call caller map) field r ≡ []
  batched_none field (role.Pair n) other = ap (λ (q : Bool). if q then effect.Retired (APair n) ∷ [] else []) (ne_eqb field FIRST other)
  batched_none field (role.Table t len) other = ap (λ (q : Bool). if q then effect.Retired (ATable t) ∷ [] else []) (ne_eqb field FIRST other)
  batched_none field _ other = refl

  either_none : (q : Bool) (l : List Effect) → l ≡ [] → (if q then [] else l) ≡ []
  either_none true l e = refl
  either_none false l e = e

  wrote_none : (at : At) (old new : ℕ) → IsQuiet at → effects_by (changed.Wrote at old new) ≡ []
  wrote_none (name.Entry b field) old new quiet = either_none (names_same old new) (batched (acts.Call caller map) field (known.roles b)) (batched_none field (known.roles b) quiet)
  wrote_none (name.Slot s field) old new quiet = refl
  wrote_none (name.Root r) old new quiet = absurd quiet
  wrote_none (name.Used r) old new quiet = absurd quiet
  wrote_none (name.Word b field) old new quiet = absurd quiet

  module _ {K V : Type 0} where
    op_none : (m : Mem (Node K V)) (op : Op (Node K V)) (out : Out (Node K V)) → IsQuietOp op → effects_by (observed_of op out (seen_of m op out)) ≡ []
    op_none m (Load at) out quiet = refl
    op_none m (Store at word) out quiet = wrote_none at _ _ quiet
    op_none m (Swap at word) (Found before) quiet = wrote_none at _ _ quiet
    op_none m (Swap at word) _ quiet = refl
    op_none m (Add at by) (Found before) quiet = wrote_none at _ _ quiet
    op_none m (Add at by) _ quiet = refl
    op_none m (Or at bits) (Found before) quiet = wrote_none at _ _ quiet
    op_none m (Or at bits) _ quiet = refl
    op_none m (Exchange at before word) (Exchanged (Ok found)) quiet = wrote_none at _ _ quiet
    op_none m (Exchange at before word) (Exchanged (Err found)) quiet = refl
    op_none m (Exchange at before word) _ quiet = refl
    op_none m (Make value words) out quiet = absurd quiet
    op_none m (Take x) out quiet = absurd quiet
    op_none m (Rewrite x value) out quiet = absurd quiet
    op_none m (Room bucket) out quiet = absurd quiet

    -- a plan that writes such words alone tells nothing
    pub plan_none : {R : Type 0} (m m2 : Mem (Node K V)) (told : Changed) (plan : Plan (Node K V) R) (end : R) → StepsObserved K V R m changed.Nothing plan m2 told end → IsQuietPlan plan → effects_by told ≡ []
    plan_none m m2 told (Turn rest) end steps quiet = ap effects_by steps.2
    plan_none m m2 told (Do op rest) end steps quiet = ap effects_by steps.1.1 ∙ op_none m op steps.0 quiet

-- a row that has a block to retire still
module _ (word : ℕ) where
  abbrev pub IsDue : Settle → Type 0
  IsDue d = due_in_settle d d.stands ≡ Some (ToRetire word)

  with_due : (c : Settle) → c.pending ≡ word → c.flushing ≡ false → IsDue (plans.with_batch c)
  with_due c is steady = by c.held c.flushing steady (c.last == 0)
    where
      by : (h f : Bool) → f ≡ false → (l : Bool)
          → IsDue (if h then (if f then (if l then record c { flushing = false; stands = at.Gives } else record c { flushing = false; stands = at.Firsts 0 }) else plans.standing c at.Pops) else plans.standing c at.Sees)
      by true true e l = absurd (cc e)
      by true false e l = ap (λ (k : ℕ). Some (ToRetire k)) is
      by false f e l = ap (λ (k : ℕ). Some (ToRetire k)) is

  onward_due : (c : Settle) → c.reclaiming ≡ 0 → c.pending ≢ 0 → c.pending ≡ word → c.flushing ≡ false → IsDue (plans.onward c)
  onward_due c idle some is steady =
      by (c.reclaiming == 0) (ap (λ (x : ℕ). x == 0) idle) (c.pending == 0) (λ e. some (eqb-true c.pending 0 e)) c.flushing (nat_lt ACTIVE c.list) c.held
    where
      by : (r : Bool) → r ≡ true → (p : Bool) → (p ≡ true → ⊥) → (f l h : Bool)
          → IsDue (if r then (if p then (if f then plans.with_batch c else (if l then plans.standing c at.Lists else (if h then plans.standing c at.Gives else plans.standing c at.Over))) else plans.with_batch c) else plans.standing c at.Nexts)
      by true e true n f l h = absurd (n refl)
      by true e false n f l h = with_due c is steady
      by false e p n f l h = absurd (cc e)

  module _ {T : Type 0} where
    abbrev AllDue : Then T (Settle × Settled T) → Type 0
    AllDue (Now r) = IsDue r.0
    AllDue (Seeing block rest) = (v : T) → AllDue (rest v)
    AllDue (Sure fact rest) = AllDue rest

    ends_due : (shown : ℕ → Option T) (rest : Then T (Settle × Settled T)) (end : Settle × Settled T) → Ends shown rest end → AllDue rest → IsDue end.0
    ends_due shown (Now r) end h a = subst (λ (q : Settle × Settled T). IsDue q.0) (sym h) a
    ends_due shown (Seeing block rest) end h a = ends_due shown (rest h.0) end h.2 (a h.0)
    ends_due shown (Sure fact rest) end h a = ends_due shown rest end h a

    either : (t : Bool) (a b : Then T (Settle × Settled T)) → (t ≡ true → AllDue a) → AllDue b → AllDue (if t then a else b)
    either true a b p q = p refl
    either false a b p q = q

    module _ (c : Settle) (aside : SettlesAside c) (stays : IsDue c) where
      seen_due : c.pending ≡ word → (out : Out T) → AllDue (plans.seen c out)
      seen_due is (Found w) = either (w == HELD) (Now (c, settled.Waits)) (plans.to (record c { last = w; stands = at.Holds })) (λ e. stays) (ap (λ (k : ℕ). Some (ToRetire k)) is)
      seen_due is _ = stays

      held_due : c.pending ≢ 0 → c.pending ≡ word → (out : Out T) → AllDue (plans.taken_hold c out)
      held_due some is (Exchanged (Ok w)) = onward_due (record c { held = true }) aside.0 some is aside.2
      held_due some is (Exchanged (Err w)) = ap (λ (k : ℕ). Some (ToRetire k)) is
      held_due some is _ = stays

      popped_due : c.pending ≡ word → (out : Out T) → AllDue (plans.popped c out)
      popped_due is (Found w) =
          either (c.last == 0) (plans.to (record c { pending = w; first = c.pending; stands = at.Batches c.pending })) (plans.to (record c { pending = w; stands = at.Firsts c.pending }))
          (λ e. ap (λ (k : ℕ). Some (ToRetire k)) is) (ap (λ (k : ℕ). Some (ToRetire k)) is)
      popped_due is _ = stays

      first_due : (block : ℕ) → block ≢ 0 → block ≡ word → (out : Out T) → AllDue (plans.first_read c block out)
      first_due block some is (Found w) =
          either (block == 0) (plans.to (plans.scanning (record c { first = w }))) (plans.to (record c { first = w; stands = at.Batches block }))
          (λ e. absurd (some (eqb-true block 0 e))) (ap (λ (k : ℕ). Some (ToRetire k)) is)
      first_due block some is _ = stays

module _ {K V : Type 0} (caller map : ℕ) (known : Known) (m m2 : Mem (Node K V)) (told : Changed) (c : Settle) (end : Settle × Settled (Node K V)) (aside : SettlesAside c) (one : OneAt (IsBlank m) c c.stands)
    (named : (block : ℕ) → c.stands ≡ at.Batches block → block_in c.first ≢ 0)
    (steps : StepsObserved K V (Settle × Settled (Node K V)) m changed.Nothing (plans.settle_plan deferred_word c) m2 told end) where
  abbrev SteppedAt : Settling → Type 0
  SteppedAt p = StepsObserved K V (Settle × Settled (Node K V)) m changed.Nothing (plans.plan_at deferred_word c p) m2 told end

  -- so it goes on
  abbrev Goes : Settling → Type 0
  Goes p = RowTells caller map known (effects_by caller map known told) (due_in_settle c p) (due_in_settle end.0 end.0.stands)

  none_told : (p : Settling) → SteppedAt p → IsQuietPlan {T = Node K V} (plans.plan_at deferred_word c p) → effects_by caller map known told ≡ []
  none_told p st quiet = plan_none caller map known m m2 told (plans.plan_at deferred_word c p) end st quiet

  -- past its block
  none_due : (d : Settle) (p : Settling) → OneAt (λ b. ⊥) d p → due_in_settle d p ≡ None
  none_due d at.Sees k = absurd k.1
  none_due d at.Holds k = absurd k.1
  none_due d at.Pops k = absurd k.1
  none_due d (at.Firsts block) k = absurd k.2
  none_due d (at.Batches block) k = absurd k.1
  none_due d _ k = refl

  past : (p : Settling) → c.stands ≡ p → OneAt (λ b. ⊥) c p → IsQuietPlan {T = Node K V} (plans.plan_at deferred_word c p) → SteppedAt p → Goes p
  past p is k quiet st =
      TellsNone (none_told p st quiet) (
      none_due end.0 end.0.stands
      (goes_one (λ b. ⊥) m c aside (subst (OneAt (λ b. ⊥) c) (sym is) k) deferred_word m2 end
      (λ pops word found. absurd (subst (OneAt (λ b. ⊥) c) (sym is ∙ pops) k).1) (as_step m changed.Nothing (plans.settle_plan deferred_word c) m2 told end steps))
      ∙ sym (none_due c p k)
      )

  still : (p : Settling) → c.stands ≡ p → (word : ℕ) → due_in_settle c p ≡ Some (ToRetire word) → IsDue word end.0 → effects_by caller map known told ≡ [] → Goes p
  still p is word due after none = TellsNone none (after ∙ sym due)

  due_here : (p : Settling) → c.stands ≡ p → (word : ℕ) → due_in_settle c p ≡ Some (ToRetire word) → IsDue word c
  due_here p is word due = subst (λ (q : Settling). due_in_settle c q ≡ Some (ToRetire word)) (sym is) due

  batch_told : (block : ℕ) → IsBlank m (block_in block) → block_in c.first ≢ 0 → SteppedAt (at.Batches block) → Goes (at.Batches block)
  batch_told block blank some (out, (took, told_so), ends) = TellsRetired block refl (ap (λ (q : Settle × Settled (Node K V)). due_in_settle q.0 q.0.stands) ends) (ap (effects_by caller map known) told_at ∙ by (known.roles (block_in block)))
    where
      zero : (o : Option ℕ) → word_at m (name.Entry (block_in block) FIRST) ≡ o → word_or o ≡ 0
      zero None is = refl
      zero (Some w) is = blank.first w is

      told_at : told ≡ changed.Wrote (name.Entry (block_in block) FIRST) 0 c.first
      told_at = told_so ∙ ap (λ (k : ℕ). changed.Wrote (name.Entry (block_in block) FIRST) k c.first) (zero (word_at m (name.Entry (block_in block) FIRST)) refl)

      differ : names_same 0 c.first ≡ false
      differ = ne_eqb (block_in 0) (block_in c.first) (λ e. some (sym e))

      by : (r : Role) → (if names_same 0 c.first then [] else batched (acts.Call caller map) FIRST r) ≡ retired_effects r
      by r = ap (λ (q : Bool). if q then [] else batched (acts.Call caller map) FIRST r) differ ∙ role_told r
        where
          role_told : (x : Role) → batched (acts.Call caller map) FIRST x ≡ retired_effects x
          role_told (role.Pair n) = refl
          role_told (role.Table t len) = refl
          role_told _ = refl

  pub settle_tells : Goes c.stands
  settle_tells = by c.stands refl one aside.3 steps
    where
      by : (p : Settling) → c.stands ≡ p → OneAt (IsBlank m) c p → IsAside p → SteppedAt p → Goes p
      by at.Sees is k a st =
          still at.Sees is c.pending refl (ends_due c.pending (value_at m2) (plans.seen c st.0) end st.2 (seen_due c.pending c aside (due_here at.Sees is c.pending refl) refl st.0)) (none_told at.Sees st tt)
      by at.Holds is k a st =
          still at.Holds is c.pending refl (ends_due c.pending (value_at m2) (plans.taken_hold c st.0) end st.2 (held_due c.pending c aside (due_here at.Holds is c.pending refl) k.0 refl st.0)) (none_told at.Holds st tt)
      by at.Pops is k a st =
          still at.Pops is c.pending refl (ends_due c.pending (value_at m2) (plans.popped c st.0) end st.2 (popped_due c.pending c aside (due_here at.Pops is c.pending refl) refl st.0)) (none_told at.Pops st tt)
      by (at.Firsts block) is k a st =
          still (at.Firsts block) is block refl (ends_due block (value_at m2) (plans.first_read c block st.0) end st.2 (first_due block c aside (due_here (at.Firsts block) is block refl) block k.1 refl st.0)) (none_told (at.Firsts block) st tt)
      by (at.Batches block) is k a st = batch_told block k.1 (named block is) st
      by (at.Ends block) is k a st = past (at.Ends block) is k (λ e. absurd (omega (arith, e))) st
      by (at.Appends block) is k a st = past (at.Appends block) is k (λ e. absurd (omega (arith, e))) st
      by (at.Counts block) is k a st = past (at.Counts block) is k (λ e. absurd (omega (arith, e))) st
      by (at.Scans slot block marks) is k a st = past (at.Scans slot block marks) is k tt st
      by (at.Marks slot block marks) is k a st = past (at.Marks slot block marks) is k (λ e. absurd (omega (arith, e))) st
      by (at.Marked slot block marks) is k a st = past (at.Marked slot block marks) is k tt st
      by (at.Closes marks) is k a st = past (at.Closes marks) is k (λ e. absurd (omega (arith, e))) st
      by (at.Reads block left pushed) is k a st = past (at.Reads block left pushed) is k tt st
      by (at.Links block left pushed slot head) is k a st = past (at.Links block left pushed slot head) is k (λ e. absurd (omega (arith, e))) st
      by (at.Pushes block left pushed slot head) is k a st = past (at.Pushes block left pushed slot head) is k tt st
      by (at.Pushed block left pushed) is k a st = past (at.Pushed block left pushed) is k tt st
      by (at.Sums pushed) is k a st = past (at.Sums pushed) is k (λ e. absurd (omega (arith, e))) st
      by at.Gives is k a st = past at.Gives is k tt st
      by at.Over is k a st = past at.Over is k tt st
      by _ is k a st = absurd a
