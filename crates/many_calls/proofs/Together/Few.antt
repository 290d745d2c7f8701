-- Calls stay few, and claims far from the end of a word, while a call begins, and over steps that claim nothing.
use Rattle.std.specs.Prelude.{length, ◌≡◌, ◌≢◌, ℕ, ◌+◌, ◌<◌, ◌≤◌, ◌^◌, ◌⊎◌, ◌==◌, if◌then◌else◌, Bool, true, false, List, Option, Some, None}
use Rattle.std.specs.List.{All, AllPairs}
use Rattle.std.proofs.Common.{refl, sym, subst, ◌∙◌, inl, inr}
use Rattle.std.proofs.lemmas.Bool.{cases_eq}
use Rattle.seize_model.specs.Given.SeizeWorld.{with_at}
use Rattle.map_facts_late.specs.Given.ResizeCopierPromotes.{table_retired}
use Rattle.map_facts_late.specs.Given.ResizeCopierStates.{standing}
use Rattle.map_facts_late.specs.Given.ResizeDeclared.copier.Copier.{Copier}
use Rattle.map_facts_late.specs.Given.ResizeDeclared.copier.Copying.TheVariants as copies
use Rattle.map_facts_late.specs.Given.RawDeclared.machines.call.Calling.{Calling}
use Rattle.map_facts_late.specs.Given.RawDeclared.machines.call.Calling.TheVariants as at
use Rattle.map_facts_late.specs.Given.PointsTold.{IsRowOfCopier, IsRowOfCall}
use Rattle.map_facts_late.specs.Given.RuleChart.{Chart}
use Rattle.map_facts_late.specs.Given.TablesChunks.{is_incremental}
use Rattle.map_facts_late.specs.Given.TablesDeclared.node.Node.{Node}
use Rattle.map_facts_late.specs.Given.TablesDeclared.resize_mode.ResizeMode.{ResizeMode}
use Rattle.map_facts_late.specs.Given.RawDeclared.machines.answer.Called.{Called}
use Rattle.map_facts_late.specs.Given.RawDeclared.machines.answer.Called.TheVariants as called
use Rattle.map_facts_late.specs.Given.RuleInWorld.{Moved}
use Rattle.map_facts_late.specs.Given.RuleMaps.{spot_of}
use Rattle.map_facts_late.specs.Given.RuleRule.{Rule}
use Rattle.map_facts_late.specs.Given.ResizeDeclared.yielding.Yielding.{Yielding}
use Rattle.map_facts_late.specs.Given.ResizeDeclared.yielding.Yielding.TheVariants as outcome
use Rattle.map_facts_late.specs.Given.ReservesDeclared.reserve.Reserving.{Reserving}
use Rattle.map_facts_late.specs.Given.ReservesDeclared.reserve.Reserving.TheVariants as reserving
use Rattle.map_facts_late.specs.ToldReserves.{IsRowOfReserve}
use Rattle.many_calls.specs.Rooms.{CallForRoom, RoomClaims}
use Rattle.many_calls.specs.Claims.{AreFew, IsNoLookup, IsToClaim, ClaimsFit, ClaimsBy}
use Rattle.map_facts_late.specs.Given.ReservesDeclared.sweep.Sweeping.{Sweeping}
use Rattle.map_facts_late.specs.Given.ReservesDeclared.sweep.Sweeping.TheVariants as sweeping
use Rattle.map_facts_late.specs.Given.ReservesDeclared.sweep.Swept.{Swept}
use Rattle.map_facts_late.specs.Given.ReservesDeclared.sweep.Swept.TheVariants as swept
use Rattle.map_facts_late.specs.ToldSweeps.{IsRowOfSweep}
use Rattle.map_facts_late.proofs.Swept.Sweeps.Stands.{IsQuiet}
use Rattle.many_calls.specs.OverAll.{CallOverAll, SweepClaims}
use Rattle.many_calls.specs.Together.{OverAll, Counting, next_over_all, next_for_room, ForRoom, ClaimsInto, OnKey, CallOnKey, UnderWay, next_of, MayWrite, IsWriter, FewWith, ToClaim, StayFew}
use Rattle.many_calls.proofs.Claims.Charts.{past_moved, claim_new}
use Rattle.many_calls.proofs.Claims.Fit.{fits_on, fits_few}
use Rattle.many_calls.proofs.Together.At.{at_other, at_same}

-- fewer are few
pub fewer : (Such Those : ℕ → Type 0) → AreFew Such → ((j : ℕ) → Those j → Such j) → AreFew Those
fewer Such Those few on callers apart all = few callers apart (λ k d l. on _ (all k d l))

pub fewer_fit : {K : Type 0} (c : Chart K) (Such Those : ℕ → ℕ → Type 0) → ClaimsFit c Such → ((t j : ℕ) → Those t j → Such t j) → ClaimsFit c Those
fewer_fit c Such Those fit on t made callers apart all = fit t made callers apart (λ k d l. on t _ (all k d l))

module _ {K V Q : Type 0} (calls : ℕ → Option (UnderWay K V Q)) (i : ℕ) (it : Option (UnderWay K V Q)) where
  abbrev later : ℕ → Option (UnderWay K V Q)
  later = with_at calls i it

  -- all others have the calls that they had
  writers_then : (Such : ℕ → Type 0) → ((j : ℕ) → IsWriter calls j → Such j) → ((u : UnderWay K V Q) → it ≡ Some u → MayWrite u → Such i) → (j : ℕ) → IsWriter later j → Such j
  writers_then Such others own j (u, has, writes) = elim (cases_eq j i) as (λ _. Such j) [
    | inl e ↦ subst Such (sym e) (own u (sym (at_same calls i it j e) ∙ has) writes)
    | inr ne ↦ others j (u, sym (at_other calls i it j ne) ∙ has, writes)
  ]

  claims_then : ((t : ℕ) (u : UnderWay K V Q) → it ≡ Some u → ClaimsInto t u → ⊥) → (t j : ℕ) → ToClaim later t j → ToClaim calls t j
  claims_then none t j (u, has, claims) = elim (cases_eq j i) as (λ _. ToClaim calls t j) [
    | inl e ↦ absurd (none t u (sym (at_same calls i it j e) ∙ has) claims)
    | inr ne ↦ (u, sym (at_other calls i it j ne) ∙ has, claims)
  ]

  module _ (c : Chart K) (s : StayFew calls c) (none : (t : ℕ) (u : UnderWay K V Q) → it ≡ Some u → ClaimsInto t u → ⊥) where
    -- one that goes on, in a step that claims nothing
    pub few_gone : ((u : UnderWay K V Q) → it ≡ Some u → MayWrite u → IsWriter calls i) → StayFew later c
    few_gone its = record {
      few = fewer (IsWriter calls) (IsWriter later) s.few (writers_then (IsWriter calls) (λ j has. has) its);
      claims = fewer_fit c (ToClaim calls) (ToClaim later) s.claims (claims_then none);
    }

-- a call that begins is to claim nothing
module _ {K V Q : Type 0} (calls : ℕ → Option (UnderWay K V Q)) (i : ℕ) (it : UnderWay K V Q) (c : Chart K) (s : StayFew calls c) (none : (t : ℕ) → ClaimsInto t it → ⊥) where
  same_begun : (x : UnderWay K V Q) → ◌≡◌ {A = Option (UnderWay K V Q)} (Some it) (Some x) → x ≡ it
  same_begun x e = cc e

  pub few_begun : FewWith calls i it → StayFew (with_at calls i (Some it)) c
  few_begun few = record {
    few = fewer (λ j. ((j ≡ i) × MayWrite it) ⊎ IsWriter calls j) (IsWriter (with_at calls i (Some it))) few
        (writers_then calls i (Some it) (λ j. ((j ≡ i) × MayWrite it) ⊎ IsWriter calls j) (λ j has. inr has) (λ u is writes. inl (refl, subst (λ (x : UnderWay K V Q). MayWrite x) (same_begun u is) writes)));
    claims = fewer_fit c (ToClaim calls) (ToClaim (with_at calls i (Some it))) s.claims (claims_then calls i (Some it) (λ t u is claims. none t (subst (ClaimsInto t) (same_begun u is) claims)));
  }

-- few are with any call, where they are few with its caller
pub few_with_any : {K V Q : Type 0} (calls : ℕ → Option (UnderWay K V Q)) (i : ℕ) (u : UnderWay K V Q) → AreFew (λ j. (j ≡ i) ⊎ IsWriter calls j) → FewWith calls i u
few_with_any calls i u few = fewer (λ j. (j ≡ i) ⊎ IsWriter calls j) (λ j. ((j ≡ i) × MayWrite u) ⊎ IsWriter calls j) few (λ j such. elim such as (λ _. (j ≡ i) ⊎ IsWriter calls j) [
  | inl its ↦ inl its.0
  | inr has ↦ inr has
])

-- a call that goes on, and is to claim nothing; and one that has ended
module _ {K V Q : Type 0} (calls : ℕ → Option (UnderWay K V Q)) (i : ℕ) (c : Chart K) (s : StayFew calls c) where
  same_call : (x y : UnderWay K V Q) → ◌≡◌ {A = Option (UnderWay K V Q)} (Some x) (Some y) → y ≡ x
  same_call x y e = cc e

  pub few_with : (u : UnderWay K V Q) → (MayWrite u → IsWriter calls i) → ((t : ℕ) → ClaimsInto t u → ⊥) → StayFew (with_at calls i (Some u)) c
  few_with u its none =
      few_gone calls i (Some u) c s (λ t v is claims. none t (subst (ClaimsInto t) (same_call u v is) claims)) (λ v is writes. its (subst (λ (x : UnderWay K V Q). MayWrite x) (same_call u v is) writes))

  pub few_without : StayFew (with_at calls i None) c
  few_without = few_gone calls i None c s (λ t v is claims. absurd (cc is)) (λ v is writes. absurd (cc is))

-- what a call is after a step, where it goes on
pub next_is : {K V Q : Type 0} (after : CallOnKey K V Q) (it : Called (Node K V)) (v : UnderWay K V Q) → next_of after it ≡ Some v → v ≡ OnKey after
next_is after (called.Done answer) v e = absurd (cc e)
next_is after (called.Refused fault) v e = absurd (cc e)
next_is after called.Goes v e = cc e
next_is after called.Waits v e = cc e
next_is after (called.Gave value) v e = cc e
next_is after (called.Unstored value) v e = cc e
next_is after (called.Asks asked) v e = cc e

pub room_next_is : {K V Q : Type 0} (after : CallForRoom) (it : Yielding (Node K V) Unit) (v : UnderWay K V Q) → next_for_room after it ≡ Some v → v ≡ ForRoom after
room_next_is after (outcome.Done end) v e = absurd (cc e)
room_next_is after (outcome.Refused fault) v e = absurd (cc e)
room_next_is after outcome.Goes v e = cc e
room_next_is after outcome.Waits v e = cc e
room_next_is after (outcome.Gave value) v e = cc e

pub over_all_next_is : {K V Q : Type 0} (after : CallOverAll) (it : Swept (Node K V)) (v : UnderWay K V Q) → next_over_all after it ≡ Some v → v ≡ OverAll after
over_all_next_is after swept.Done v e = absurd (cc e)
over_all_next_is after (swept.Refused fault) v e = absurd (cc e)
over_all_next_is after swept.Goes v e = cc e
over_all_next_is after swept.Waits v e = cc e
over_all_next_is after (swept.Gave value) v e = cc e
over_all_next_is after swept.Ready v e = cc e
over_all_next_is after (swept.Pair word) v e = cc e
over_all_next_is after (swept.Asks word) v e = cc e

-- a sweep within a row is to claim nothing, nor is one that copies nothing
pub sweep_row_claims_none : (x : Sweeping) → IsRowOfSweep x → (t : ℕ) → SweepClaims t x → ⊥
sweep_row_claims_none (sweeping.Copies copier) row t (claims, turn) = subst IsRowOfCopier claims row
sweep_row_claims_none _ row t claims = claims

pub quiet_claims_none : (x : Sweeping) → IsQuiet x → (t : ℕ) → SweepClaims t x → ⊥
quiet_claims_none (sweeping.Copies copier) quiet t claims = quiet
quiet_claims_none _ quiet t claims = claims

-- a reservation within a row is to claim nothing
pub room_row_claims_none : (x : Reserving) → IsRowOfReserve x → (t : ℕ) → RoomClaims t x → ⊥
room_row_claims_none (reserving.Copies copier) row t (claims, turn) = subst IsRowOfCopier claims row
room_row_claims_none _ row t claims = claims

-- a call within a row is to claim nothing
pub row_claims_none : (x : Calling) → IsRowOfCall x → (t : ℕ) → IsToClaim t x → ⊥
row_claims_none (at.Copies copier) row t (claims, turn) = subst IsRowOfCopier claims row
row_claims_none _ row t claims = claims

-- but it is no lookup
pub row_writes : (x : Calling) → IsRowOfCall x → IsNoLookup x
row_writes (at.Looks lookup) row = row
row_writes _ row = tt

-- nor is one to claim once its table is retired
pub retired_claims_none : (p : Copier) (rest : ℕ) (t : ℕ) → IsToClaim t (at.Copies (table_retired p rest)) → ⊥
retired_claims_none p rest t (claims, turn) = by (rest == 0) claims
  where
    by : (b : Bool) → (if b then standing p copies.Over else standing p (copies.Succeeds rest)).stands ≡ copies.Claims → ⊥
    by true e = cc e
    by false e = cc e

-- no claim comes near to the end of a word
pub claim_few : {K V Q : Type 0} (calls : ℕ → Option (UnderWay K V Q)) (c : Chart K) → StayFew calls c → (t : ℕ) → t < c.past → c.claim t < 2 ^ 63
claim_few {K} calls c s = fits_few K (ToClaim calls) c s.claims

-- who is to claim places may write
claims_write : {K V Q : Type 0} (t : ℕ) (u : UnderWay K V Q) → ClaimsInto t u → MayWrite u
claims_write t (OnKey u) claims = by u.call.stands claims
  where
    by : (x : Calling) → IsToClaim t x → IsNoLookup x
    by (at.Looks lookup) claims = claims
    by _ claims = tt
claims_write t (ForRoom r) claims = tt
claims_write t (Counting sum) claims = claims
claims_write t (OverAll o) claims = tt

module _ {K V Q : Type 0} (calls : ℕ → Option (UnderWay K V Q)) (i : ℕ) (u : UnderWay K V Q) (has : calls i ≡ Some u) (it : Option (UnderWay K V Q)) (c c2 : Chart K) (s : StayFew calls c)
    (writes : (v : UnderWay K V Q) → it ≡ Some v → MayWrite v → MayWrite u)
    (same : K → K → Bool) (hash : K → ℕ) (mode : ResizeMode) (caller : ℕ) (rule : Rule same (spot_of hash) (is_incremental mode) c) (moved : Moved same hash mode caller c c2) where
  its_call : (v : UnderWay K V Q) → it ≡ Some v → MayWrite v → IsWriter calls i
  its_call v is writes_then = (u, has, writes v is writes_then)

  -- over a step of a call, that claims no more than a chunk
  pub few_step : (Then : ℕ → Type 0) → ((v : UnderWay K V Q) → it ≡ Some v → (t : ℕ) → ClaimsInto t v → Then t) → ClaimsBy c c2 (λ t. ClaimsInto t u) Then → StayFew (with_at calls i it) c2
  few_step Then after by = record {
    few = fewer (IsWriter calls) (IsWriter (with_at calls i it)) s.few (writers_then calls i it (IsWriter calls) (λ j h. h) its_call);
    claims = fits_on c c2 (ToClaim calls) (ToClaim (with_at calls i it)) i (past_moved hash mode c c2 same caller moved) (λ t l made. claim_new same hash mode caller c c2 rule moved t l) others few_lists grows sees s.claims;
  }
    where
      own : (t : ℕ) → ToClaim (with_at calls i it) t i → Then t
      own t (v, is, claims) = after v (sym (at_same calls i it i refl) ∙ is) t claims

      others : (t j : ℕ) → ToClaim (with_at calls i it) t j → j ≢ i → ToClaim calls t j
      others t j (v, is, claims) ne = (v, sym (at_other calls i it j ne) ∙ is, claims)

      has_call : (t j : ℕ) → ToClaim (with_at calls i it) t j → IsWriter calls j
      has_call t j (v, is, claims) = writers_then calls i it (IsWriter calls) (λ k h. h) its_call j (v, is, claims_write t v claims)

      few_lists : (t : ℕ) (callers : List ℕ) → AllPairs (λ x y. x ≢ y) callers → All (ToClaim (with_at calls i it) t) callers → length callers ≤ 2 ^ 32
      few_lists t callers apart all = s.few callers apart (λ k d l. has_call t _ (all k d l))

      grows : (t : ℕ) → t < c.past → (c2.claim t ≡ c.claim t) ⊎ (ToClaim calls t i × (ToClaim (with_at calls i it) t i → ⊥) × (c2.claim t ≤ c.claim t + 4096))
      grows t made = elim (by.grows t made) [
        | inl e ↦ inl e
        | inr (was, not, most) ↦ inr ((u, has, was), λ is. not (own t is), most)
      ]

      sees : (t : ℕ) → ToClaim (with_at calls i it) t i → c2.claim t < 2 ^ 48
      sees t is = by.sees t (own t is)
