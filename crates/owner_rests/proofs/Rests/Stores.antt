-- Insertions into a map for one owner.
use Rattle.std.specs.Prelude.{◌≡◌, ℕ, Bool, true, List, [], ◌∷◌, ◌++◌, Option, Some, None, Result, Ok, Err, is_some, IsTrue, IfErr, OnErr, false}
use Rattle.std.proofs.Common.{refl, sym, ◌∙◌, ap, subst, inl, inr}
use denote.Ref.{Bor}
use Rattle.seize_words.specs.OneMemory.Mem.{Mem, value_at}
use Rattle.seize_words.specs.OneMemory.Word.{block_in}
use Rattle.seize_words.specs.declared.fault.Fault.{Fault}
use Rattle.seize_words.specs.declared.fault.Fault.TheVariants.{Capacity}
use Rattle.map_straight.specs.Shown.Chain.{CannotGrowIn}
use Rattle.map_tables.specs.declared.node.Node.{Node}
use Rattle.map_tables.specs.declared.node.Node.TheVariants as node
use Rattle.map_tables.specs.declared.setting.Setting.{Setting}
use Rattle.papaya_raw.specs.CallPoints.{inserting, trying_to_insert}
use Rattle.papaya_raw.specs.declared.machines.answer.KeyAnswer.TheVariants as answers
use Rattle.papaya_raw.specs.declared.machines.call.KeyCall.{KeyCall}
use Rattle.owner_calls.specs.Given.CallersKind.{Kind, inserts, tries_to_insert}
use Rattle.owner_calls.specs.Given.CallersPairs.{Begun}
use Rattle.owner_calls.specs.Given.CallersTogether.{Inserts, TriesToInsert}
use Rattle.owner_calls.specs.Given.LateKinds.{FaultFits}
use Rattle.owner_calls.specs.Owned.Calling.{IsCalling, HasStopped, begun}
use Rattle.owner_calls.specs.Given.StridesEnding.{Ends, RunsTo}
use Rattle.owner_calls.specs.Owned.Machines.{on_key_plan}
use Rattle.owner_calls.specs.Owned.Owned.{Holds, EndsBy, IsReturned, IsPairAt, found_by, left_by}
use Rattle.owner_calls.specs.declared.machines.OnKey.{OnKey}
use Rattle.owner_calls.specs.declared.machines.Stop.{Stop}
use Rattle.owner_calls.specs.declared.machines.Stop.TheVariants as stop
use Rattle.owner_calls.proofs.Owned.Owned.Calls.{UnderIt, begins_under, ends_by}
use Rattle.owner_calls.proofs.Owned.Owned.ComesBack.{comes_back}
use Rattle.owner_calls.proofs.Owned.Owned.HandsBack.{HasPair}
use Rattle.owner_calls.proofs.Owned.Owned.Keys.{under_ends, comes_to}
use Rattle.owner_rests.specs.Rests.Calls.{StoresPair, has_found, has_replaced}
use Rattle.owner_rests.specs.Rests.Lasts.{IsPairOf, QuiescentWith, words_of_stop}
use Rattle.owner_rests.specs.declared.last.Last.{Last}
use Rattle.owner_rests.proofs.Rests.Removals.{left_none}

module _ {K V S : Type 0} (same : K → K → Bool) (hashes : S → K → ℕ) (b : Bor S) (setting : Setting) (m : Mem (Node K V)) (xs : List (K × V)) (h : Holds same (hashes b.now) setting m xs) (key : K) (value : V) where
  abbrev pair : Option (Node K V)
  pair = Some (node.Pair key value)

  abbrev Begins : Kind → KeyCall K V K → Type 0
  Begins kind call = UnderIt same hashes b setting m xs h key kind pair (record { call = call; hasher = b; unstored = None }) m × HasPair call

  inserts_begin : Begins inserts (inserting setting (hashes b.now key) key value)
  inserts_begin = (
    begins_under same hashes b setting m xs h key inserts pair (inserting setting (hashes b.now key) key value) (Inserts key value) refl
        (refl, refl, record { takes_is = refl; removes = λ e. absurd (cc e); choices = λ e. absurd (cc e) }, (λ e. absurd (cc e)), (λ present absent. cc present)),
    record { absent = refl; present = tt; own = λ e. absurd (cc e); pair = ((λ e. cc e), h.lawful.fits key) },
  )

  tries_begin : Begins tries_to_insert (trying_to_insert setting (hashes b.now key) key value)
  tries_begin = (
    begins_under same hashes b setting m xs h key tries_to_insert pair (trying_to_insert setting (hashes b.now key) key value) (TriesToInsert key value) refl
        (refl, refl, record { takes_is = refl; removes = λ e. absurd (cc e); choices = λ e. absurd (cc e) }, (λ e. absurd (cc e)), (λ present absent. cc absent)),
    record { absent = refl; present = tt; own = λ e. absurd (cc e); pair = ((λ e. cc e), h.lawful.fits key) },
  )

  module _ (kind : Kind) (call : KeyCall K V K) where
    begins : StoresPair (hashes b.now) setting key value kind call → Begins kind call
    begins (inl (is_kind, is)) = subst (λ k. Begins k call) (sym is_kind) (subst (Begins inserts) (sym is) inserts_begin)
    begins (inr (is_kind, is)) = subst (λ k. Begins k call) (sym is_kind) (subst (Begins tries_to_insert) (sym is) tries_begin)

    module _ (stores : StoresPair (hashes b.now) setting key value kind call) where
      pub insertion_ends : Ends (on_key_plan {Q = K} same same hashes) (record { call = call; hasher = b; unstored = None }) m
      insertion_ends = under_ends same same hashes b setting h.lawful h.initial h.world.memory h.chart h.blocks h.rests.together.ground.map.map.rule (same key) (Begun kind pair) _ m (begins stores).0

      module _ (x : OnKey K V K S) (m2 : Mem (Node K V)) (result : Result Stop Fault) (runs : RunsTo (on_key_plan {Q = K} same same hashes) (record { call = call; hasher = b; unstored = None }) m x m2 result) where
        pub insertion_by : EndsBy same (hashes b.now) setting m2 kind pair (same key) xs result
        insertion_by =
            ends_by same hashes b setting m xs h key kind pair m2 result
            (comes_to same same hashes b setting h.lawful h.initial h.world.memory h.chart h.blocks h.rests.together.ground.map.map.rule (same key) (Begun kind pair) _ m x m2 result runs (begins stores).0)

        pub insertion_back : IsReturned pair result x.unstored
        insertion_back =
            comes_back same same hashes b setting h.lawful h.initial h.world.memory h.chart h.blocks h.rests.together.ground.map.map.rule (same key) kind pair _ m x m2 result runs (begins stores).0 (inr (begins stores).1)

-- it has stopped so
module _ {K V S : Type 0} (same : K → K → Bool) (hashes : S → K → ℕ) (b : Bor S) (setting : Setting) (m : Mem (Node K V)) (key : K) (value : V) where
  begins_calling : (kind : Kind) (call : KeyCall K V K) → StoresPair (hashes b.now) setting key value kind call
      → IsCalling {Q = K} same same hashes b setting m (same key) (Begun kind (Some (node.Pair key value))) (record { call = call; hasher = b; unstored = None }) m
  begins_calling kind call (inl (is_kind, is)) =
      subst (λ (k : Kind). IsCalling {Q = K} same same hashes b setting m (same key) (Begun k (Some (node.Pair key value))) (record { call = call; hasher = b; unstored = None }) m) (sym is_kind)
      (subst (λ (c : KeyCall K V K). IsCalling {Q = K} same same hashes b setting m (same key) (Begun inserts (Some (node.Pair key value))) (record { call = c; hasher = b; unstored = None }) m) (sym is)
      (begun (inserting setting (hashes b.now key) key value) (Inserts key value)))
  begins_calling kind call (inr (is_kind, is)) =
      subst (λ (k : Kind). IsCalling {Q = K} same same hashes b setting m (same key) (Begun k (Some (node.Pair key value))) (record { call = call; hasher = b; unstored = None }) m) (sym is_kind)
      (subst (λ (c : KeyCall K V K). IsCalling {Q = K} same same hashes b setting m (same key) (Begun tries_to_insert (Some (node.Pair key value))) (record { call = c; hasher = b; unstored = None }) m) (sym is)
      (begun (trying_to_insert setting (hashes b.now key) key value) (TriesToInsert key value)))

  pub insertion_ran : (kind : Kind) (call : KeyCall K V K) → StoresPair (hashes b.now) setting key value kind call → (x : OnKey K V K S) (m2 : Mem (Node K V)) (result : Result Stop Fault)
      → RunsTo (on_key_plan {Q = K} same same hashes) (record { call = call; hasher = b; unstored = None }) m x m2 result → HasStopped {Q = K} same same hashes b setting m (same key) (Begun kind (Some (node.Pair key value))) m2 result
  insertion_ran kind call stores x m2 result runs = (record { call = call; hasher = b; unstored = None }, m, begins_calling kind call stores, x, runs)

module _ {K V : Type 0} (same : K → K → Bool) (hash : K → ℕ) (setting : Setting) (m : Mem (Node K V)) (keys : K → Bool) (xs : List (K × V)) (key : K) (value : V) where
  abbrev given : Option (Node K V)
  given = Some (node.Pair key value)

  -- the pair that was stored is the one that was given
  as_given : (ys : List (K × V)) (j : K) (v : V) → given ≡ Some (node.Pair j v) → Holds same hash setting m (ys ++ ((j, v) ∷ [])) → Holds same hash setting m (ys ++ ((key, value) ∷ []))
  as_given ys j v e holds = subst (λ (x : K × V). Holds same hash setting m (ys ++ (x ∷ []))) (one j v e) holds
    where
      one : (j : K) (v : V) → given ≡ Some (node.Pair j v) → ◌≡◌ {A = K × V} (j, v) (key, value)
      one j v e = cc e

  -- and stands in the block of its word
  stands_as_given : (word : ℕ) (j : K) (v : V) → given ≡ Some (node.Pair j v) → value_at m (block_in word) ≡ Some (node.Pair j v) → IsPairAt m word (key, value)
  stands_as_given word j v e there = there ∙ sym e

  -- what an insertion comes to, with the words that its end tells
  Inserted : Last → Stop → Type 0
  Inserted last s =
      (has_replaced s ≡ is_some (found_by keys xs)) × QuiescentWith same hash setting m last (left_by keys xs ++ ((key, value) ∷ [])) (found_by keys xs) (Some (key, value))

  inserts_by : (s : Stop) → EndsBy same hash setting m inserts given keys xs (Ok s) → Inserted (words_of_stop s) s
  unfolding Inserted
  inserts_by (stop.Answered (answers.Stored word)) e =
      let a = e.1 in (
        sym (ap is_some a.0),
        record {
          holds = subst (λ ys. Holds same hash setting m (ys ++ ((key, value) ∷ []))) (sym (left_none keys xs a.0)) (as_given xs a.1 a.2 a.3 a.5);
          taken_is = subst (IsPairOf m None) (sym a.0) tt;
          met_is = stands_as_given word a.1 a.2 a.3 a.4;
        },
      )
  inserts_by (stop.Answered (answers.Replaced old new)) e =
      let a = e.1 in (
        sym (ap is_some a.1),
        record {
          holds = as_given (left_by keys xs) a.3 a.4 a.5 a.7;
          taken_is = subst (IsPairOf m (Some old)) (sym a.1) a.2;
          met_is = stands_as_given new a.3 a.4 a.5 a.6;
        },
      )
  inserts_by (stop.Answered answers.Absent) e = absurd (elim e.0 as (λ _. ⊥) [ inl p ↦ cc p | inr p ↦ cc p.0 ])
  inserts_by (stop.Answered (answers.Found word)) e = absurd (elim e.0 as (λ _. ⊥) [ inl p ↦ cc p | inr p ↦ cc p.0 ])
  inserts_by (stop.Answered (answers.Removed word)) e = absurd (elim e.0 as (λ _. ⊥) [ inl p ↦ cc p | inr p ↦ cc p.0 ])
  inserts_by (stop.Asks None) e = absurd (cc e)
  inserts_by (stop.Asks (Some word)) e = absurd (cc e)

  -- what an insertion comes to that replaces none, likewise
  Tried : Last → Stop → Type 0
  Tried last s = (has_found s ≡ false → (found_by keys xs ≡ None) × QuiescentWith same hash setting m last (xs ++ ((key, value) ∷ [])) None (Some (key, value)))
      × (has_found s ≡ true → IsTrue (is_some (found_by keys xs)) × QuiescentWith same hash setting m last xs None (found_by keys xs))

  tries_by : (s : Stop) → EndsBy same hash setting m tries_to_insert given keys xs (Ok s) → Tried (words_of_stop s) s
  unfolding Tried
  tries_by (stop.Answered (answers.Stored word)) e =
      let a = e.1 in (
        (λ no_pair. (a.0, record { holds = as_given xs a.1 a.2 a.3 a.5; taken_is = tt; met_is = stands_as_given word a.1 a.2 a.3 a.4 })),
        (λ one. absurd (cc one)),
      )
  tries_by (stop.Answered (answers.Found word)) e =
      let a = e.1 in (
        (λ no_pair. absurd (cc no_pair)),
        (λ one. (subst (λ o. IsTrue (is_some o)) (sym a.2) refl, record { holds = a.4; taken_is = tt; met_is = subst (IsPairOf m (Some word)) (sym a.2) a.3 })),
      )
  tries_by (stop.Answered (answers.Replaced old new)) e = absurd (elim e.0 as (λ _. ⊥) [ inl p ↦ cc p | inr p ↦ cc p.0 ])
  tries_by (stop.Answered answers.Absent) e = absurd (elim e.0 as (λ _. ⊥) [ inl p ↦ cc p | inr p ↦ cc p.0 ])
  tries_by (stop.Answered (answers.Removed word)) e = absurd (elim e.0 as (λ _. ⊥) [ inl p ↦ cc p | inr p ↦ cc p.0 ])
  tries_by (stop.Asks None) e = absurd (cc e)
  tries_by (stop.Asks (Some word)) e = absurd (cc e)

  -- by the result of its run
  pub tried_so : (result : Result Stop Fault) → EndsBy same hash setting m tries_to_insert given keys xs result → (s : Stop) → result ≡ Ok s → (last : Last) → last ≡ words_of_stop s
      → (has_found s ≡ false → (found_by keys xs ≡ None) × QuiescentWith same hash setting m last (xs ++ ((key, value) ∷ [])) None (Some (key, value)))
      × (has_found s ≡ true → IsTrue (is_some (found_by keys xs)) × QuiescentWith same hash setting m last xs None (found_by keys xs))
  unfolding Tried
  tried_so result e s is last words = subst (λ (l : Last). Tried l s) (sym words) (tries_by s (subst (EndsBy same hash setting m tries_to_insert given keys xs) is e))

  pub stored_so : (result : Result Stop Fault) → EndsBy same hash setting m inserts given keys xs result → (s : Stop) → result ≡ Ok s → (last : Last) → last ≡ words_of_stop s
      → (has_replaced s ≡ is_some (found_by keys xs)) × QuiescentWith same hash setting m last (left_by keys xs ++ ((key, value) ∷ [])) (found_by keys xs) (Some (key, value))
  unfolding Inserted
  stored_so result e s is last words = subst (λ (l : Last). Inserted l s) (sym words) (inserts_by s (subst (EndsBy same hash setting m inserts given keys xs) is e))

  pub refused_so : (kind : Kind) (result : Result Stop Fault) → EndsBy same hash setting m kind given keys xs result → (fault : Fault) → result ≡ Err fault
      → FaultFits kind.present kind.absent kind.takes fault × Holds same hash setting m xs × (fault ≡ Capacity → CannotGrowIn m setting)
  refused_so kind result e fault is = subst (EndsBy same hash setting m kind given keys xs) is e

-- the pair comes back with a fault
pub back_so : {N : Type 0} (pair : Option N) (result : Result Stop Fault) (back : Option N) → IsReturned pair result back → (fault : Fault) → result ≡ Err fault → back ≡ pair
back_so pair result back e fault is = subst (λ r. IsReturned pair r back) is e

-- and where it has found another one
pub back_found : {N : Type 0} (pair : Option N) (result : Result Stop Fault) (back : Option N) → IsReturned pair result back → (s : Stop) → result ≡ Ok s → has_found s ≡ true → back ≡ pair
back_found {N} pair result back e s is found = by s (subst (λ r. IsReturned pair r back) is e) found
  where
    by : (s : Stop) → IsReturned pair (Ok s) back → has_found s ≡ true → back ≡ pair
    by (stop.Answered (answers.Found word)) (inl puts) found = absurd puts
    by (stop.Answered (answers.Found word)) (inr so) found = so
    by (stop.Answered answers.Absent) so found = absurd (cc found)
    by (stop.Answered (answers.Stored word)) so found = absurd (cc found)
    by (stop.Answered (answers.Replaced old new)) so found = absurd (cc found)
    by (stop.Answered (answers.Removed word)) so found = absurd (cc found)
    by (stop.Asks asked) so found = absurd (cc found)

module _ {K V : Type 0} (hash : K → ℕ) (setting : Setting) (key : K) (value : V) (call : KeyCall K V K) (code : ℕ) (is : code ≡ hash key) where
  -- the call that was begun
  pub inserts_this : call ≡ inserting setting code key value → StoresPair hash setting key value inserts call
  inserts_this so = inl (refl, so ∙ ap (λ x. inserting setting x key value) is)

  pub tries_this : call ≡ trying_to_insert setting code key value → StoresPair hash setting key value tries_to_insert call
  tries_this so = inr (refl, so ∙ ap (λ x. trying_to_insert setting x key value) is)

-- one pair has one key and one value
pub same_pair : {K V : Type 0} (back : Option (Node K V)) (key j : K) (value v : V) → back ≡ Some (node.Pair key value) → back ≡ Some (node.Pair j v) → (j ≡ key) × (v ≡ value)
same_pair back key j value v e f = (cc (e, f), cc (e, f))

-- the value that comes back where it has found another pair is the one that was given
pub value_back : {K V : Type 0} (back : Option (Node K V)) (key : K) (value : V) (found : Bool) (tried : Result Unit V) → OnErr tried (found ≡ true) → IfErr tried (λ v. (j : K) × (back ≡ Some (node.Pair j v)))
    → (found ≡ true → back ≡ Some (node.Pair key value)) → IfErr tried (λ v. v ≡ value)
value_back back key value found (Ok done) is has back_is = tt
value_back back key value found (Err v) is has back_is = (same_pair back key has.0 value v (back_is is) has.1).1
