-- A caller that has no call begins one: all calls stand together, and it knows its first point.
use Rattle.many_calls.specs.Asked.{last_reply, replies_before}
use Rattle.many_calls.specs.Kind.{gets, removes, inserts, tries_to_insert, computes, updates, updates_or_inserts, tries_to_insert_with, removes_if}
use Rattle.many_calls.specs.Pairs.{Given, Begun, IsTold, RemovesNone, KeepsGiven}
use Rattle.map_facts_late.specs.Given.TablesChunks.{is_incremental}
use Rattle.map_facts_late.specs.Given.RawDeclared.machines.asking.MachineReply.TheVariants as reply
use Rattle.map_facts_late.specs.Given.RawDeclared.machines.asking.Told.TheVariants as tells
use Rattle.many_calls.proofs.Asked.Begins.{begun_told}
use Rattle.many_calls.proofs.Once.Stays.{begun_once}
use Rattle.map_facts_late.specs.Given.RawDeclared.machines.asking.Takes.TheVariants as takes
use Rattle.std.specs.Prelude.{◌≤◌, ◌≡◌, ℕ, Bool, [], Option, Some, None}
use Rattle.std.proofs.Common.{false, refl, arith, inl}
use Rattle.seize_model.specs.Given.SeizeWorld.{World, with_at}
use Rattle.many_calls.specs.Claims.{IsToClaim}
use Rattle.many_calls.specs.Together.{OnKey, FewWith, UnderWay, in_slot, Together, IsBegun, Gets, Removes, Inserts, TriesToInsert, Computes, Updates, UpdatesOrInserts, TriesToInsertWith, RemovesIf, begun_at, BeginsTogether}
use Rattle.map_facts_late.specs.Given.TablesDeclared.node.Node.{Node}
use Rattle.map_facts_late.specs.Given.TablesDeclared.node.Node.TheVariants as node
use Rattle.map_facts_late.specs.Given.TablesDeclared.setting.Setting.{Setting}
use Rattle.map_facts_late.specs.Given.RawCallPoints.{getting, removing, inserting, trying_to_insert}
use Rattle.map_facts_late.specs.Given.RawCallAsks.{computing, updating, updating_or_inserting, trying_to_insert_with, removing_if}
use Rattle.map_facts_late.specs.Given.RawDeclared.machines.answer.KeyAnswer.{KeyAnswer}
use Rattle.map_facts_late.specs.Given.RawDeclared.machines.call.KeyCall.{KeyCall}
use Rattle.map_facts_late.specs.Given.RuleChart.{Chart}
use Rattle.map_facts_late.specs.Given.RuleWords.{Blocks}
use Rattle.map_facts_late.specs.Given.PointsFactsCalls.{Unchanged, CallFacts}
use Rattle.map_facts_late.specs.Given.PointsTold.{HasAnswered}
use Rattle.map_facts_late.specs.Given.PointsSteps.{first_reply}
use Rattle.many_calls.specs.Sights.{Visible, seen_by}
use Rattle.many_calls.proofs.Together.Few.{few_begun}
use Rattle.many_calls.proofs.Together.Fits.{fits_some, fits_of, stands_by}
use Rattle.map_facts_late.proofs.Given.PointsCalls.StepsTold.{calls_begin, asking_calls_begin}
use Rattle.map_facts_late.proofs.KindsKept.Calls.Kept.{untold_fits}

within_before : {V : Type 0} (absent : Option V) (n : ℕ) → last_reply (Some n) (replies_before absent) ≡ None
within_before None n = refl
within_before (Some value) n = refl

stores_before : {V : Type 0} (absent : Option V) → last_reply None (replies_before absent) ≡ Some reply.Remove → ⊥
stores_before None e = cc e
stores_before (Some value) e = cc e

module _ {K V Q : Type 0} (same : K → K → Bool) (hash : K → ℕ) (asks : Q → K → Bool) (setting : Setting) (slot : ℕ → ℕ) where
  abbrev Stand : World (Node K V) → Chart K → Blocks → (ℕ → Visible) → (ℕ → Option (UnderWay K V Q)) → Type 0
  Stand = Together V same hash asks setting slot

  pub begins_together : BeginsTogether V same hash asks setting slot
  begins_together w c blocks sights calls i lawful s none rests inside keys pair call begun few = by keys pair call begun few
    where
      with_call : (keys : K → Bool) (pair : Given K V) (call : KeyCall K V Q) → CallFacts same hash asks w i (in_slot setting (slot i)) c (seen_by blocks (sights (slot i))) keys Unchanged call
          → ((answer : KeyAnswer) → HasAnswered answer call.stands → ⊥) → KeepsGiven hash w.memory c (seen_by blocks (sights (slot i))) keys pair Unchanged call call.stands
          → (RemovesNone pair → ⊥) → ((t : ℕ) → IsToClaim t call.stands → ⊥)
          → (is_incremental setting.mode ≡ false → FewWith calls i (OnKey (begun_at V same hash asks setting slot c keys pair call)))
          → Stand w c blocks sights (with_at calls i (Some (OnKey (begun_at V same hash asks setting slot c keys pair call))))
      with_call keys pair call facts none keeps never claims few =
          stands_by same hash asks setting slot w c blocks sights calls i (Some (OnKey (begun_at V same hash asks setting slot c keys pair call))) s.ground
          (fits_some same hash asks setting slot w c blocks (sights (slot i)) i (OnKey (begun_at V same hash asks setting slot c keys pair call)) inside
          (inl (
            rests,
            record {
              facts = inl facts;
              since = record { began_before = (let e : c.now ≤ c.now = omega arith in e); changed = inl refl; answered = λ e answer has. absurd (none answer has) };
              pair = keeps;
              none = λ told. absurd (never told);
            },
          )))
          (λ j other. fits_of same hash asks setting slot w c blocks sights calls s j)
          (λ blocking. few_begun calls i (OnKey (begun_at V same hash asks setting slot c keys pair call)) c (s.few blocking) claims (few blocking)) s.onto (λ none. absurd (cc none))

      by : (keys : K → Bool) (pair : Given K V) (call : KeyCall K V Q) → IsBegun V same hash asks setting slot i keys pair call
          → (is_incremental setting.mode ≡ false → FewWith calls i (OnKey (begun_at V same hash asks setting slot c keys pair call)))
          → Stand w c blocks sights (with_at calls i (Some (OnKey (begun_at V same hash asks setting slot c keys pair call))))
      by _ _ _ (Gets q code fits class) =
          with_call (asks q) (Begun gets None) (getting (in_slot setting (slot i)) code q)
          ((calls_begin V same hash asks lawful (in_slot setting (slot i)) w i c (seen_by blocks (sights (slot i))) (s.idle i none)).0 q code fits class).0 (λ answer has. has) (
            refl,
            inl refl,
            (refl, refl, untold_fits takes.Nothing None tells.Nothing, (λ e. absurd (cc e)), (refl, refl)),
          ) (λ told. told) (λ t h. h)
      by _ _ _ (Removes q code fits class) =
          with_call (asks q) (Begun removes None) (removing (in_slot setting (slot i)) code q)
          ((calls_begin V same hash asks lawful (in_slot setting (slot i)) w i c (seen_by blocks (sights (slot i))) (s.idle i none)).0 q code fits class).1 (λ answer has. has) (
            refl,
            inl refl,
            (refl, refl, untold_fits takes.Nothing None tells.Nothing, (λ e. absurd (cc e)), (λ present absent. cc present)),
          ) (λ told. told) (λ t h. h)
      by _ _ _ (Inserts key value) =
          with_call (same key) (Begun inserts (Some (node.Pair key value))) (inserting (in_slot setting (slot i)) (hash key) key value)
          ((calls_begin V same hash asks lawful (in_slot setting (slot i)) w i c (seen_by blocks (sights (slot i))) (s.idle i none)).1 key value).0 (λ answer has. has) (
            refl,
            refl,
            (refl, refl, untold_fits takes.Nothing None tells.Nothing, (λ e. absurd (cc e)), (λ present absent. cc present)),
          ) (λ told. told) (λ t h. h)
      by _ _ _ (TriesToInsert key value) =
          with_call (same key) (Begun tries_to_insert (Some (node.Pair key value))) (trying_to_insert (in_slot setting (slot i)) (hash key) key value)
          ((calls_begin V same hash asks lawful (in_slot setting (slot i)) w i c (seen_by blocks (sights (slot i))) (s.idle i none)).1 key value).1 (λ answer has. has) (
            refl,
            refl,
            (refl, refl, untold_fits takes.Nothing None tells.Nothing, (λ e. absurd (cc e)), (λ present absent. cc absent)),
          ) (λ told. told) (λ t h. h)
      by _ _ _ (Computes key) =
          with_call (same key) (IsTold computes (Some key) []) (computing (in_slot setting (slot i)) (hash key) key)
          ((asking_calls_begin V same hash asks lawful (in_slot setting (slot i)) w i c (seen_by blocks (sights (slot i))) (s.idle i none)).1 key None).0
          (λ answer has. has) (
            (begun_told hash w.memory c (seen_by blocks (sights (slot i))) (Some key) takes.Changes (λ e. cc e) None, tt),
            ((λ e. cc e), begun_once None _),
            (refl, refl, untold_fits takes.Changes (Some key) tells.Nothing, (λ e. absurd (cc e)), (λ present absent. cc present)),
            ((λ other n. refl), (λ other. refl)),
          ) (stores_before {V = V} None) (λ t h. h)
      by _ _ _ (Updates key) =
          with_call (same key) (IsTold updates (Some key) []) (updating (in_slot setting (slot i)) (hash key) key)
          ((asking_calls_begin V same hash asks lawful (in_slot setting (slot i)) w i c (seen_by blocks (sights (slot i))) (s.idle i none)).1 key None).1
          (λ answer has. has) (
            (begun_told hash w.memory c (seen_by blocks (sights (slot i))) (Some key) takes.Values (λ e. cc e) None, tt),
            ((λ e. cc e), begun_once None _),
            (refl, refl, untold_fits takes.Values (Some key) tells.Nothing, (λ e. absurd (cc e)), (λ present absent. cc present)),
            ((λ other n. refl), (λ other. refl)),
          ) (stores_before {V = V} None) (λ t h. h)
      by _ _ _ (UpdatesOrInserts key absent) =
          with_call (same key) (IsTold updates_or_inserts (Some key) (replies_before absent))
          (updating_or_inserting (in_slot setting (slot i)) (hash key) key (first_reply absent))
          ((asking_calls_begin V same hash asks lawful (in_slot setting (slot i)) w i c (seen_by blocks (sights (slot i))) (s.idle i none)).1 key absent).2
          (λ answer has. has) (
            (begun_told hash w.memory c (seen_by blocks (sights (slot i))) (Some key) takes.Values (λ e. cc e) absent, tt),
            ((λ e. cc e), begun_once absent _),
            (refl, refl, untold_fits takes.Values (Some key) (first_reply absent), (λ e. absurd (cc e)), (λ present absent. cc present)),
            ((λ other. within_before absent), (λ other. absurd (other refl))),
          ) (stores_before absent) (λ t h. h)
      by _ _ _ (TriesToInsertWith key) =
          with_call (same key) (IsTold tries_to_insert_with (Some key) []) (trying_to_insert_with (in_slot setting (slot i)) (hash key) key)
          ((asking_calls_begin V same hash asks lawful (in_slot setting (slot i)) w i c (seen_by blocks (sights (slot i))) (s.idle i none)).1 key None).3
          (λ answer has. has) (
            (begun_told hash w.memory c (seen_by blocks (sights (slot i))) (Some key) takes.Values (λ e. cc e) None, tt),
            ((λ e. cc e), begun_once None _),
            (refl, refl, untold_fits takes.Values (Some key) tells.Nothing, (λ e. absurd (cc e)), (λ present absent. cc absent)),
            ((λ other n. refl), (λ other. refl)),
          ) (stores_before {V = V} None) (λ t h. h)
      by _ _ _ (RemovesIf q code fits class) =
          with_call (asks q) (IsTold removes_if None []) (removing_if (in_slot setting (slot i)) code q)
          ((asking_calls_begin V same hash asks lawful (in_slot setting (slot i)) w i c (seen_by blocks (sights (slot i))) (s.idle i none)).0 q code fits class)
          (λ answer has. has) (
            (begun_told hash w.memory c (seen_by blocks (sights (slot i))) None takes.Choices (λ e. cc e) None, tt),
            tt,
            (refl, refl, untold_fits takes.Choices None tells.Nothing, (λ e. absurd (cc e)), (λ present absent. cc present)),
            ((λ other n. refl), (λ other. refl)),
          ) (stores_before {V = V} None) (λ t h. h)
