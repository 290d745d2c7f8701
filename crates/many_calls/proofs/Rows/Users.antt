-- What users do, where every row rests, leaves a call within its section.
use Rattle.std.specs.Prelude.{Some, Ok, Err}
use Rattle.std.proofs.Common.{◌≡◌, ℕ, ◌<◌, ◌≤◌, Bool, true, List, [], ◌∷◌, ◌⊎◌, inl, inr, refl, ap, sym, subst}
use Rattle.seize_model.specs.Given.SeizeWordsOp.{Out, Found, Stored, Exchanged, Made, Taken, Roomed}
use Rattle.seize_model.specs.Given.SeizeWordsMem.{Mem, value_at}
use Rattle.seize_model.specs.Given.SeizeLaw.{holds, is_somewhere}
use Rattle.seize_model.specs.Given.SeizeWorld.{World, Use, Hand, NoBlock, Making, InUse, Cutting, Handed, LeftTo, Event, Begin, Step, Makes, Drops, Links, Unlinks, Rewrites, Operates, LeavesOver, Relinks, Clears, Chooses, Happens, Runs, IsInside, made_by, Parts, Parting, Ends}
use Rattle.seize_model.specs.Given.SeizeSequence.{IsUsers}
use Rattle.seize_model.proofs.Given.SeizeMovesState.Logs.{reached_held}
use Rattle.seize_model.proofs.Alone.Histories.NotTaken.{nobodys}
use Rattle.seize_model.proofs.Alone.Histories.Uses.{inside_open}
use Rattle.seize_model.proofs.Alone.Histories.UsersTurn.{AreUsers, users_uses}
use Rattle.seize_model.proofs.Alone.Histories.Reached.{Reached, happens_reached, runs_reached}
use Rattle.map_facts_late.specs.Given.TablesNodes.{deferred_word}
use Rattle.map_facts_late.specs.Given.TablesDeclared.node.Node.{Node}
use Rattle.map_facts_late.specs.Given.TablesDeclared.setting.Setting.{Setting}
use Rattle.map_facts_late.specs.Given.RuleChart.{Chart}
use Rattle.map_facts_late.specs.Given.RuleWords.{Blocks}
use Rattle.map_facts_late.specs.Given.RuleInWorld.{KnownSince, IsMapIn, AllUsers}
use Rattle.map_facts_late.proofs.Given.RuleWorld.Hands.{at_cases}
use Rattle.many_calls.specs.Kept.{IsUsersOwn, IsMaking, IsWithin}
use Rattle.many_calls.proofs.Rows.Defers.{used_stands}
use Rattle.many_calls.proofs.Rows.UsersHeld.{still_holds, events_inside}
use Rattle.map_facts_late.specs.Given.RuleCounters.{SparesCounter}

pub all_users : {T : Type 0} (events : List (Event T)) → AllUsers events → AreUsers events
all_users [] u = tt
all_users (e ∷ events) u = (u.0, all_users events u.1)

-- the collector hasn't got the block
abbrev IsNotHanded : Hand → Type 0
IsNotHanded Handed = ⊥
IsNotHanded _ = Unit {0}

pub own_not_handed : (h : Hand) → IsUsersOwn h → IsNotHanded h
own_not_handed NoBlock u = tt
own_not_handed (Making i) u = tt
own_not_handed (InUse o) u = tt
own_not_handed (Parting i) u = tt
own_not_handed (Cutting i) u = tt
own_not_handed Handed u = u
own_not_handed (LeftTo i) u = tt

module _ {K V : Type 0} (size x : ℕ) where
  made_not_handed : (w : World (Node K V)) (i : ℕ) (m : Mem (Node K V)) (out : Out (Node K V)) → IsNotHanded (w.hand x) → IsNotHanded ((made_by deferred_word w i m out).hand x)
  made_not_handed w i m (Found word) h = h
  made_not_handed w i m Stored h = h
  made_not_handed w i m (Exchanged result) h = h
  made_not_handed w i m (Made (Ok b)) h = at_cases IsNotHanded w.hand b (Making i) x (λ _. tt) (λ _. h)
  made_not_handed w i m (Made (Err back)) h = h
  made_not_handed w i m (Taken block) h = h
  made_not_handed w i m (Roomed result) h = h

  -- users hand nothing to the collector but by rows
  event_not_handed : (e : Event (Node K V)) (w v : World (Node K V)) → IsUsers e → Happens deferred_word size e w v → IsNotHanded (w.hand x) → IsNotHanded (v.hand x)
  event_not_handed (Begin i request) w v u e h = absurd u
  event_not_handed (Step i) w v u e h = absurd u
  event_not_handed (Makes i value words) w v u e h = subst (λ (y : World (Node K V)). IsNotHanded (y.hand x)) (sym e.4) (made_not_handed w i e.1 e.0 h)
  event_not_handed (Drops i b) w v u e h = subst (λ (y : World (Node K V)). IsNotHanded (y.hand x)) (sym e.4) (at_cases IsNotHanded w.hand b NoBlock x (λ _. tt) (λ _. h))
  event_not_handed (Links i b o) w v u e h = subst (λ (y : World (Node K V)). IsNotHanded (y.hand x)) (sym e.1) (at_cases IsNotHanded w.hand b (InUse o) x (λ _. tt) (λ _. h))
  event_not_handed (Parts i b) w v u e h = subst (λ (y : World (Node K V)). IsNotHanded (y.hand x)) (sym e.1) (at_cases IsNotHanded w.hand b (Parting i) x (λ _. tt) (λ _. h))
  event_not_handed (Unlinks i b) w v u e h = subst (λ (y : World (Node K V)). IsNotHanded (y.hand x)) (sym e.1) (at_cases IsNotHanded w.hand b (Cutting i) x (λ _. tt) (λ _. h))
  event_not_handed (Rewrites i b value) w v u e h = subst (λ (y : World (Node K V)). IsNotHanded (y.hand x)) (sym e.5) h
  event_not_handed (Operates op) w v u e h = subst (λ (y : World (Node K V)). IsNotHanded (y.hand x)) (sym e.4) h
  event_not_handed (Ends i o) w v u e h = absurd u
  event_not_handed (LeavesOver i b further) w v u e h = absurd u
  event_not_handed (Relinks i b word) w v u e h = absurd u
  event_not_handed (Clears i b) w v u e h = absurd u
  event_not_handed (Chooses choice) w v u e h = subst (λ (y : World (Node K V)). IsNotHanded (y.hand x)) (sym e) h

  pub events_not_handed : (events : List (Event (Node K V))) (w v : World (Node K V)) → AllUsers events → Runs deferred_word size events w v → IsNotHanded (w.hand x) → IsNotHanded (v.hand x)
  events_not_handed [] w v u r h = subst (λ (y : World (Node K V)). IsNotHanded (y.hand x)) (sym r) h
  events_not_handed (e ∷ events) w v u r h = events_not_handed events r.0 v u.1 r.2 (event_not_handed e w r.0 u.0 r.1 h)

  -- the section goes on holding what it holds
  pub events_hold : (slot : ℕ) (events : List (Event (Node K V))) (w v : World (Node K V)) → Reached deferred_word size w → IsInside (w.uses slot) → AllUsers events → Runs deferred_word size events w v
      → holds slot x w.log ≡ true → holds slot x v.log ≡ true
  events_hold slot [] w v r inside u runs h = subst (λ (y : World (Node K V)). holds slot x y.log ≡ true) (sym runs) h
  events_hold slot (e ∷ events) w v r inside u runs h =
      events_hold slot events runs.0 v (happens_reached deferred_word size e w runs.0 r runs.1)
      (subst (λ (f : ℕ → Use). IsInside (f slot)) (sym (users_uses deferred_word size w runs.0 e u.0 runs.1)) inside) u.1 runs.2
      (still_holds size w r slot inside x e runs.0 u.0 runs.1 h)

  -- a block that is there is a user's, or the collector's
  pub own_there : (w : World (Node K V)) → Reached deferred_word size w → (value : Node K V) → value_at w.memory x ≡ Some value → IsNotHanded (w.hand x) → IsUsersOwn (w.hand x)
  own_there w r value there h = by (w.hand x) refl h
    where
      by : (k : Hand) → w.hand x ≡ k → IsNotHanded k → IsUsersOwn k
      by NoBlock e n = let none = nobodys deferred_word size w r x e in absurd (cc (none, there))
      by (Making i) e n = tt
      by (InUse o) e n = tt
      by (Parting i) e n = tt
      by (Cutting i) e n = tt
      by Handed e n = n
      by (LeftTo i) e n = tt

module _ {K V : Type 0} (same : K → K → Bool) (hash : K → ℕ) (setting : Setting) (w : World (Node K V)) (c : Chart K) (blocks : Blocks) (r : Reached deferred_word setting.batch_size w)
    (within : IsWithin w setting.slot c blocks setting) where
  pub users_within : (events : List (Event (Node K V))) (w2 : World (Node K V)) → AllUsers events → Runs deferred_word setting.batch_size events w w2 → SparesCounter setting w w2
      → (c2 : Chart K) (blocks2 : Blocks) → IsMapIn same hash setting w2 c2 blocks2 → KnownSince c blocks c2 blocks2 → IsWithin w2 setting.slot c2 blocks2 setting
  users_within events w2 users runs spares c2 blocks2 map2 since = record {
    inside = inside2;
    tables = λ t made known. table t made (since.tables t made known);
    pairs = λ n was known. pair n (since.pairs n was known);
    counter = still_making (w.hand setting.counter) refl within.counter;
  }
    where
      still_making : (h : Hand) → w.hand setting.counter ≡ h → IsMaking h → IsMaking (w2.hand setting.counter)
      still_making NoBlock is own = absurd own
      still_making (Making j) is own = subst IsMaking (sym (spares j is)) tt
      still_making (InUse o) is own = absurd own
      still_making (Parting j) is own = absurd own
      still_making (Cutting j) is own = absurd own
      still_making Handed is own = absurd own
      still_making (LeftTo j) is own = absurd own

      r2 : Reached deferred_word setting.batch_size w2
      r2 = runs_reached deferred_word setting.batch_size events w w2 r runs

      inside2 : IsInside (w2.uses setting.slot)
      inside2 = events_inside setting.batch_size setting.slot events w w2 users runs within.inside

      stays : (x : ℕ) → holds setting.slot x w.log ≡ true → holds setting.slot x w2.log ≡ true
      stays x h = events_hold setting.batch_size x setting.slot events w w2 r within.inside users runs h

      used : (x : ℕ) → w2.hand x ≡ InUse setting.counter → holds setting.slot x w2.log ≡ true
      used x e = reached_held setting.slot x w2.log (ap is_somewhere (used_stands deferred_word setting.batch_size w2 r2 x e)) (inside_open deferred_word setting.batch_size w2 r2 setting.slot inside2)

      table : (t : ℕ) → t < c2.past → ((t < c.past) × (blocks.table_known t ≡ true) × (blocks2.table t ≡ blocks.table t)) ⊎ (c2.first ≤ t) → holds setting.slot (blocks2.table t) w2.log ≡ true
      table t made (inl old) = subst (λ (x : ℕ). holds setting.slot x w2.log ≡ true) (sym old.2) (stays (blocks.table t) (within.tables t old.0 old.1))
      table t made (inr linked) = used (blocks2.table t) (map2.tables t linked made)

      pair : (n : ℕ) → ((n < c.stored) × (blocks.pair_known n ≡ true) × (blocks2.pair n ≡ blocks.pair n)) ⊎ (c2.current n ≡ true) → holds setting.slot (blocks2.pair n) w2.log ≡ true
      pair n (inl old) = subst (λ (x : ℕ). holds setting.slot x w2.log ≡ true) (sym old.2) (stays (blocks.pair n) (within.pairs n old.0 old.1))
      pair n (inr current) = used (blocks2.pair n) (map2.pairs n current)
