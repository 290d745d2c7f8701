-- By each operation, whoever makes it, as many buckets of slots are known then as the history says that were granted.
use Rattle.std.specs.Prelude.{◌≡◌, ◌⊎◌, ◌≤◌, ◌+◌, ◌&&◌, nat_le, nat_lt, ℕ, Bool, true, false, not, List, [], ◌∷◌, if◌then◌else◌}
use Rattle.std.specs.List.{list_any}
use Rattle.std.proofs.Common.{refl, ap, sym, subst, ◌∙◌, arith, inl, inr}
use Rattle.std.proofs.lemmas.Bool.{cases_lt}
use Rattle.run_schedules.specs.Given.SeizeWordsMem.{Mem, Can}
use Rattle.run_schedules.specs.Given.SeizeWordsOp.{Op, Out, Room}
use Rattle.run_schedules.specs.Given.SeizeWordsPlace.{capacity}
use Rattle.run_legal.proofs.Given.SeizeWordsPlaces.Words.{capacity-more, capacity_le_capacity, capacity_pos}
use Rattle.run_legal.specs.Given.TablesDeclared.node.Node.{Node}
use Rattle.run_legal.specs.Given.TellsSeen.{seen_of}
use Rattle.run_legal.specs.Given.TellerTells.{observed_of}
use Rattle.run_legal.specs.Given.EffectsDeclared.changed.Changed.{Changed}
use Rattle.run_legal.specs.Given.EffectsDeclared.changed.Changed.TheVariants as changed
use Rattle.run_schedules.specs.declared.effect.Effect.{Effect}
use Rattle.run_schedules.specs.declared.effect.Effect.TheVariants.{Asked}
use Rattle.run_schedules.specs.declared.effect.Growth.TheVariants.{ABucket}
use Rattle.run_schedules.specs.declared.outcome.Outcome.{Outcome}
use Rattle.run_schedules.specs.Schedules.Handing.{asks_for_bucket}
use Rattle.run_legal.specs.Given.EffectsEffects.{effects_of, known_after, pair_taken, table_taken}
use Rattle.run_legal.specs.Given.EffectsKnown.{Known}
use Rattle.run_legal.specs.Given.EffectsDeclared.acting.Acting.{Acting}
use Rattle.run_legal.specs.Given.EffectsDeclared.acting.Acting.TheVariants as acts
use Rattle.run_legal.specs.Given.RemainsSlots.{SlotsNoted}
use Rattle.run_legal.proofs.Given.FollowsOfEach.{OfEach, led_so, operation_so, taken_so}
use Rattle.run_legal.proofs.Given.FollowsOperations.{Operated}
use Rattle.run_legal.proofs.Given.RemainsSlots.{IsNoRoom, IsOther, MakesRoom, buckets_stay, either_way, no_room_told, operation_notes}
use Rattle.threads_rule.specs.Given.ActsActs.{Answer}
use Rattle.run_schedules.specs.Deeds.Deeds.{Deed, Entry}
use Rattle.run_schedules.specs.Deeds.History.{buckets}
use Rattle.play_linear.specs.Given.PlayedPlay.{Now, State, did, is_refusal}

-- words of slots are noted just where there are some, and as many buckets as were granted
pub record BucketsHold {K V S : Type 0} (x : State K V S) : Type 0 where
  pub slots : SlotsNoted x.known x.now.memory
  pub granted : x.known.buckets ≡ buckets x.history

-- nothing else asks for a bucket
module _ (who : Acting) (known : Known) where
  abbrev AsksNone : List Effect → Type 0
  AsksNone fs = list_any asks_for_bucket fs ≡ false

  each_asks_none : OfEach who known AsksNone
  each_asks_none = record {
    nothing = refl;
    linked = λ turn shape. refl;
    deferred = λ n t. refl;
    stored = λ s. refl;
    replaced = λ old s. refl;
    removed = λ n. refl;
    copied = λ n s. refl;
    retired = λ thing. refl;
    asked = refl;
    pair_made = refl;
    table_made = λ turn. refl;
    pair_given_up = refl;
    table_given_up = λ turn. refl;
  }

  pair_asks : (n : ℕ) → AsksNone (pair_taken who n ∷ [])
  pair_asks n = by who
    where
      by : (a : Acting) → AsksNone (pair_taken a n ∷ [])
      by (acts.Ending map) = refl
      by _ = refl

  others_ask_none : (told : Changed) → ((bucket : ℕ) (had : Bool) → told ≡ changed.Roomed bucket had → ⊥) → AsksNone (effects_of who known told)
  others_ask_none told other =
      operation_so who known AsksNone each_asks_none told (λ r old new is. led_so who known AsksNone each_asks_none (λ t. refl) _ _) (λ b field old new map is noted. refl)
      (λ b is of_map. taken_so who known AsksNone each_asks_none pair_asks table_asks (known.roles b) of_map) (λ bucket had is. absurd (other bucket had is))
    where
      table_asks : (t : _) → AsksNone (table_taken who t ∷ [])
      table_asks t = by who
        where
          by : (a : Acting) → AsksNone (table_taken a t ∷ [])
          by (acts.Ending map) = refl
          by _ = refl

  -- how many buckets it was granted
  abbrev pub granted_by : Changed → ℕ
  granted_by told = if list_any asks_for_bucket (effects_of who known told) && not (is_refusal told) then 1 else 0

  abbrev Counts : Changed → Type 0
  Counts told = (known_after who told known).buckets ≡ granted_by told + known.buckets

  -- no bucket came
  none_came : (told : Changed) → IsNoRoom told → granted_by told ≡ 0
  none_came (changed.Roomed bucket true) none = absurd (cc none)
  none_came (changed.Roomed bucket false) none = refl
  none_came changed.Nothing none = refl
  none_came (changed.Wrote at old new) none = quiet (changed.Wrote at old new) (λ bucket had is. cc is)
    where
      quiet : (told : Changed) → ((bucket : ℕ) (had : Bool) → told ≡ changed.Roomed bucket had → ⊥) → granted_by told ≡ 0
      quiet told other = ap (λ (q : Bool). if q && not (is_refusal told) then 1 else 0) (others_ask_none told other)
  none_came (changed.Made kind b) none = ap (λ (q : Bool). if q && not false then 1 else 0) (others_ask_none (changed.Made kind b) (λ bucket had is. cc is))
  none_came (changed.Unmade kind) none = refl
  none_came (changed.Took b) none = ap (λ (q : Bool). if q && not false then 1 else 0) (others_ask_none (changed.Took b) (λ bucket had is. cc is))

  -- the next one came, or one that was known
  module _ (bucket : ℕ) (most : capacity bucket ≤ capacity known.buckets) where
    room_counts : Counts (changed.Roomed bucket true)
    room_counts = by (nat_lt bucket known.buckets) (nat_le known.buckets bucket) refl refl
      where
        by : (p q : Bool) → nat_lt bucket known.buckets ≡ p → nat_le known.buckets bucket ≡ q
            → (if q then record known { buckets = bucket + 1 } else known).buckets ≡ (if list_any asks_for_bucket (if p then [] else Asked ABucket ∷ []) && true then 1 else 0) + known.buckets
        by true true less le = absurd (grind (arith, less, le))
        by true false less le = omega arith
        by false false less le = absurd (grind (arith, less, le))
        by false true less le =
            let low : known.buckets ≤ bucket = grind (arith, le) in
            elim (cases_lt known.buckets bucket) as (λ _. bucket + 1 ≡ 1 + known.buckets) [
              | inl past ↦ absurd (let more = capacity_le_capacity (known.buckets + 1) bucket (omega (arith, past)) in let twice = capacity-more known.buckets in let some = capacity_pos known.buckets in
                  omega (arith, more, twice, some, most))
              | inr below ↦ omega (arith, low, below)
            ]

  pub one_counts : {K V : Type 0} (m m2 : Mem (Node K V)) (told : Changed) → Operated m m2 told → SlotsNoted known m → Counts told
  one_counts m m2 told (inl (same, is)) noted = subst Counts (sym is) (omega arith)
  one_counts {K} {V} m m2 told (inr made) noted = subst Counts (sym made.is) (by made.op made.out made.can (either_way made.op made.out))
    where
      by : (op : Op (Node K V)) (out : Out (Node K V)) → Can m op → IsOther op out ⊎ MakesRoom op out → Counts (observed_of op out (seen_of m op out))
      by op out can (inl other) =
          let none = no_room_told m op out other in
          let same = buckets_stay who (observed_of op out (seen_of m op out)) known none in
          let zero = none_came (observed_of op out (seen_of m op out)) none in
          omega (arith, same, zero)
      by op out can (inr (bucket, is_room, is_made)) =
          subst (λ (o : Op (Node K V)). Counts (observed_of o out (seen_of m o out))) (sym is_room)
          (subst (λ (o : Out (Node K V)). Counts (observed_of (Room bucket) o (seen_of m (Room bucket) o))) (sym is_made)
          (room_counts bucket (let room = (subst (Can m) is_room can).1 in let whole = noted.whole in omega (arith, room, whole))))

module _ {K V S : Type 0} (x : State K V S) (here : BucketsHold x) where
  -- so it is after what is done with no operation,
  pub did_hold : (taken : Bool) (d : Deed K V) (o : Outcome V) (a : Answer K V) (now : Now K V S) → now.memory ≡ x.now.memory → BucketsHold (did taken d o a now x)
  did_hold true d o a now same = record { slots = subst (SlotsNoted x.known) (sym same) here.slots; granted = (let before = here.granted in omega (arith, before)) }
  did_hold false d o a now same = record { slots = subst (SlotsNoted x.known) (sym same) here.slots; granted = here.granted }

  -- and after what is done with one.
  pub worked_hold : (y : State K V S) (who : Acting) (told : Changed) → Operated x.now.memory y.now.memory told → y.known ≡ known_after who told x.known → (d : Deed K V) (o : Outcome V)
      → y.history ≡ record { deed = d; outcome = o; effects = effects_of who x.known told; refused = is_refusal told } ∷ x.history → BucketsHold y
  worked_hold y who told made known_is d o history_is = record {
    slots = subst (λ (k : Known). SlotsNoted k y.now.memory) (sym known_is) (operation_notes who x.known x.now.memory y.now.memory told made here.slots);
    granted = ap (λ (k : Known). k.buckets) known_is ∙ one_counts who x.known x.now.memory y.now.memory told made here.slots ∙ ap (λ (n : ℕ). granted_by who x.known told + n) here.granted
        ∙ sym (ap (λ (log : List (Entry K V)). buckets log) history_is);
  }
