-- A call on a key that only removes, from question to question: while its map has one table at most, it is not refused.
use Rattle.std.specs.Prelude.{◌≡◌, ℕ, Bool, List, Result, Ok, Err, IsOk, ◌⊎◌}
use Rattle.std.proofs.Common.{refl, sym, ap, subst, inl, inr}
use denote.Ref.{Bor}
use Rattle.seize_words.specs.OneMemory.Mem.{Mem}
use Rattle.seize_words.specs.declared.fault.Fault.{Fault}
use Rattle.map_tables.specs.declared.node.Node.{Node}
use Rattle.map_tables.specs.declared.setting.Setting.{Setting}
use Rattle.papaya_raw.specs.declared.machines.answer.KeyAnswer.{KeyAnswer}
use Rattle.papaya_raw.specs.declared.machines.answer.There.TheVariants as there
use Rattle.papaya_raw.specs.declared.machines.asking.Takes.TheVariants as takes
use Rattle.papaya_raw.specs.declared.machines.call.KeyCall.{KeyCall}
use Rattle.owner_calls.specs.Given.RuleChart.{Chart}
use Rattle.owner_calls.specs.Given.RuleWords.{Blocks, root_word}
use Rattle.owner_calls.specs.Given.CallersKind.{Kind, computes, gets, inserts, tries_to_insert, tries_to_insert_with, updates, updates_or_inserts}
use Rattle.owner_calls.specs.Given.CallersPairs.{Given, kind_of}
use Rattle.owner_calls.specs.Given.CallersTogether.{CallOnKey, IsBegun, Gets, Removes, Inserts, TriesToInsert, Computes, Updates, UpdatesOrInserts, TriesToInsertWith, RemovesIf, begun_at}
use Rattle.owner_calls.specs.Owned.Calling.{IsCalling}
use Rattle.owner_calls.specs.Given.StridesEnding.{RunsTo}
use Rattle.owner_calls.specs.Owned.Machines.{on_key_plan}
use Rattle.owner_calls.specs.Owned.Owned.{Holds}
use Rattle.owner_calls.specs.declared.machines.OnKey.{OnKey}
use Rattle.owner_calls.specs.declared.machines.Stop.{Stop}
use Rattle.owner_calls.specs.declared.machines.Stop.TheVariants as stop
use Rattle.owner_calls.proofs.Sifts.Along.Calls.{StepsKeep, RepliesKeep, StopsAt, kept_along}
use Rattle.owner_asks.proofs.Steady.Ends.{EndsAt, ends_at, shows_one}
use Rattle.owner_asks.proofs.Steady.Calls.Kept.{call_keeps}
use Rattle.owner_asks.proofs.Steady.Calls.Points.{IsDone, IsSteady, So, comes_steady, told_steady}
use Rattle.owner_asks.specs.Steady.Steady.{HasOneTable, OnlyRemoves, RemovalsAreSteady}

module _ {K V Q S : Type 0} (asks : Q → K → Bool) (same : K → K → Bool) (hashes : S → K → ℕ) (b : Bor S) (setting : Setting) (m0 : Mem (Node K V)) (xs : List (K × V)) (h : Holds same (hashes b.now) setting m0 xs)
    (one : HasOneTable setting m0) where
  abbrev hash : K → ℕ
  hash = hashes b.now

  abbrev slot_of : ℕ → ℕ
  slot_of i = setting.slot

  -- where the root leads all the while
  abbrev link : ℕ
  link = root_word hash h.chart h.blocks

  -- it stands at such a point, and the map is over the same tables
  abbrev Keeps : CallOnKey K V Q → Mem (Node K V) → Chart K → Blocks → Type 0
  Keeps u m c blocks = EndsAt setting link m × IsSteady setting link u.call

  -- what it gives: it is never refused
  abbrev Gives : Mem (Node K V) → Result KeyAnswer Fault → Type 0
  Gives m (Ok answer) = EndsAt setting link m
  Gives m (Err fault) = ⊥

  steps : StepsKeep asks same hashes b setting m0 xs h Keeps Gives
  steps w c blocks sights u alone here m2 p2 told s l = ((linked, steady.0), (λ answer is. linked, λ fault is. subst IsDone is steady.1))
    where
      linked : EndsAt setting link m2
      linked = call_keeps same hash asks setting slot_of h.lawful h.initial w c blocks sights u alone link here.0 here.1.1 m2 p2 told s

      steady : So setting link (p2, told)
      steady = comes_steady setting link asks same hash w.memory m2 here.0 u.call here.1 (p2, told) s

  replies : RepliesKeep asks same hashes b setting m0 xs h Keeps Gives
  replies m c blocks u here about told = (here.0, told_steady setting link u.call here.1 told)

  -- what such a kind does where the key is there
  presents : (kind : Kind) → OnlyRemoves kind → (kind.present ≡ there.Removes) ⊎ ((kind.present ≡ there.Asks) × (kind.takes ≡ takes.Choices))
  presents kind (inl e) = inl (ap (λ (x : Kind). x.present) e)
  presents kind (inr e) = inr (ap (λ (x : Kind). x.present) e, ap (λ (x : Kind). x.takes) e)

  -- A call that only removes begins so.
  steady_first : (keys : K → Bool) (given : Given K V) (call : KeyCall K V Q) → IsBegun V same hash asks setting slot_of 0 keys given call → OnlyRemoves (kind_of given) → IsSteady setting link call
  steady_first _ _ _ (Removes q code few class) only =
      (record { bare = refl; answers_none = refl; removes = inl refl; chooses = inl refl; untold = refl; bits = h.incremental; root_is = refl }, tt)
  steady_first _ _ _ (RemovesIf q code few class) only =
      (record { bare = refl; answers_none = refl; removes = inr refl; chooses = inr refl; untold = refl; bits = h.incremental; root_is = refl }, tt)
  steady_first _ _ _ (Gets q code few class) only = absurd (elim (presents gets only) as (λ _. ⊥) [ inl e ↦ cc e | inr e ↦ cc e.0 ])
  steady_first _ _ _ (Inserts key value) only = absurd (elim (presents inserts only) as (λ _. ⊥) [ inl e ↦ cc e | inr e ↦ cc e.0 ])
  steady_first _ _ _ (TriesToInsert key value) only = absurd (elim (presents tries_to_insert only) as (λ _. ⊥) [ inl e ↦ cc e | inr e ↦ cc e.0 ])
  steady_first _ _ _ (Computes key) only = absurd (elim (presents computes only) as (λ _. ⊥) [ inl e ↦ cc e | inr e ↦ cc e.1 ])
  steady_first _ _ _ (Updates key) only = absurd (elim (presents updates only) as (λ _. ⊥) [ inl e ↦ cc e | inr e ↦ cc e.1 ])
  steady_first _ _ _ (UpdatesOrInserts key absent) only = absurd (elim (presents updates_or_inserts only) as (λ _. ⊥) [ inl e ↦ cc e | inr e ↦ cc e.1 ])
  steady_first _ _ _ (TriesToInsertWith key) only = absurd (elim (presents tries_to_insert_with only) as (λ _. ⊥) [ inl e ↦ cc e | inr e ↦ cc e.0 ])

  at_stop : (x : OnKey K V Q S) (m : Mem (Node K V)) (result : Result Stop Fault) → StopsAt asks same hashes b setting m0 xs h Keeps Gives x m result → IsOk result × HasOneTable setting m
  at_stop x m (Ok (stop.Answered answer)) s = (refl, shows_one setting link m s)
  at_stop x m (Ok (stop.Asks about)) s = (refl, shows_one setting link m s.under.course.kept.0)
  at_stop x m (Err fault) s = absurd s

  stays_steady : (keys : K → Bool) (given : Given K V) → OnlyRemoves (kind_of given) → (x : OnKey K V Q S) (m : Mem (Node K V)) → IsCalling asks same hashes b setting m0 keys given x m → (x2 : OnKey K V Q S) (m2 : Mem (Node K V))
      (result : Result Stop Fault) → RunsTo (on_key_plan asks same hashes) x m x2 m2 result → IsOk result × HasOneTable setting m2
  stays_steady keys given only x m is x2 m2 result runs =
      at_stop x2 m2 result (kept_along asks same hashes b setting m0 xs h Keeps Gives steps replies keys given first x m is x2 m2 result runs)
    where
      linked_first : EndsAt setting link m0
      linked_first =
          subst (EndsAt setting link) h.memory
          (ends_at same hash setting h.chart h.blocks h.world h.rests.together.ground.map (subst (HasOneTable setting) (sym h.memory) one))

      first : (call : KeyCall K V Q) → IsBegun V same hash asks setting slot_of 0 keys given call → Keeps (begun_at V same hash asks setting slot_of h.chart keys given call) m0 h.chart h.blocks
      first call is = (linked_first, steady_first keys given call is only)

pub removals_are_steady : (K V Q S : Type 0) → RemovalsAreSteady K V Q S
removals_are_steady K V Q S asks same hashes b setting m0 xs h one keys given only m result ran =
    stays_steady asks same hashes b setting m0 xs h one keys given only ran.0 ran.1 ran.2 ran.3 m result ran.4
