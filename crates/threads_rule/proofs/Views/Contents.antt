-- The rule of maps is a content.
use Rattle.std.specs.Prelude.{List, Option, Some, None}
use Rattle.std.proofs.Common.{◌≡◌, ℕ, Bool, ◌⊎◌, inl, inr, refl, sym, subst, ap, ◌∙◌}
use Rattle.seize_words.specs.OneMemory.Op.{Op, Out}
use Rattle.seize.specs.declared.rows.settle.Settle.{Settle}
use Rattle.map_tables.specs.Nodes.{deferred_word}
use Rattle.map_tables.specs.declared.node.Node.{Node}
use Rattle.seize_views.specs.Views.Content.{SeatsComeIn, RowsContinueIn, RowsAreObserved, RowsTurnIn, SettlingsBeginIn, LookedAreShownIn, LeansByTheRest}
use Rattle.seize_views.specs.Views.Notes.{noted, deed}
use Rattle.seize_views.specs.Views.Promises.{op_of, IsNext, IsToSettle}
use Rattle.seize_views.specs.Views.Told.{told as row_told}
use Rattle.seize_views.specs.Views.Watched.{IsOfRows}
use Rattle.seize_views.specs.declared.view.Becomes.{Becomes}
use Rattle.seize_views.specs.declared.view.Deed.{Deed}
use Rattle.seize_views.specs.declared.view.Deed.TheVariants.{NoneYet}
use Rattle.seize_views.specs.declared.view.Fixed.{Fixed}
use Rattle.seize_views.specs.declared.view.Noted.{Noted}
use Rattle.seize_views.specs.declared.view.SlotView.{SlotView}
use Rattle.seize_views.specs.declared.view.SlotView.TheVariants as slot_view
use Rattle.seize_views.specs.declared.view.Why.{Why}
use Rattle.seize_views.specs.declared.view.Why.TheVariants.{Retiring}
use Rattle.threads_rule.specs.Views.Begun.{with_slot}
use Rattle.threads_rule.specs.Views.Notes.{beside_of, busy, knows_by, row_known, notes_of}
use Rattle.threads_rule.specs.Views.Rule.{Holds, KeepsFor, LeansOn, Leans, at_rest, IsBy}
use Rattle.threads_rule.specs.Views.Told.{told, observed_by}
use Rattle.threads_rule.specs.declared.view.Map.{Map}
use Rattle.threads_rule.specs.declared.view.BegunCall.{BegunCall}
use Rattle.threads_rule.specs.declared.view.View.{View}
use Rattle.threads_rule.specs.declared.view.SeatWork.{SeatWork}
use Rattle.threads_rule.specs.declared.view.SeatWork.TheVariants.{Nothing, Calls, Makes, Ends}
use Rattle.threads_rule.proofs.Views.Rows.{rows_go_on, rows_turn, settlings_begin, looked_are_shown}
use Rattle.threads_rule.proofs.Views.Starts.{seats_come}

-- who is busy has no row to go on with, begins none, and settles nothing
module _ {T : Type 0} (defers : T → Option ℕ) where
  busy_op : (v : SlotView T) (op : Op T) → op_of defers (busy v) ≡ Some op → ⊥
  busy_op (slot_view.Inside t has) op e = cc e
  busy_op _ op e = cc e

busy_next : {T : Type 0} (fixed : Fixed) (v u : SlotView T) → IsNext fixed (busy v) u → ⊥
busy_next fixed (slot_view.Inside t has) u is = is
busy_next fixed _ u is = is

busy_settles : {T : Type 0} (fixed : Fixed) (v : SlotView T) (way : Becomes) (c : Settle) → IsToSettle fixed (busy v) way c → ⊥
busy_settles fixed (slot_view.Inside t has) way c is = is
busy_settles fixed _ way c is = is

busy_not : {T : Type 0} (v : SlotView T) (c : Settle) (why : Why) (seen : Option (ℕ × T)) (left : ℕ) → busy v ≡ slot_view.Settles c why seen left → ⊥
busy_not (slot_view.Inside t has) c why seen left e = cc e
busy_not _ c why seen left e = cc e

-- no row does anything at a root
no_deed : {T : Type 0} (defers : T → Option ℕ) (v : SlotView T) (op : Op T) (out : Out T) → op_of defers v ≡ Some op → NoneYet ≡ deed v NoneYet op out
no_deed defers (slot_view.Registers c) op out e = refl
no_deed defers (slot_view.Enters t) op out e = refl
no_deed defers (slot_view.Settles c why seen left) op out e = refl
no_deed defers (slot_view.Leaves t size way) op out e = refl
no_deed defers (slot_view.Frees t) op out e = refl
no_deed defers _ op out e = absurd (cc e)

-- it is not noted to be busy
abbrev pub IsFreeSo : {T : Type 0} → SlotView T → Type 0
IsFreeSo (slot_view.Busy t) = ⊥
IsFreeSo _ = Unit {0}

module _ {K V S : Type 0} where
  -- the notes of a view that has nothing else under way
  noted_so : (v : View K V S) (u : Noted (Node K V)) → v.by ≡ None → v.under ≡ None → v.work ≡ Nothing → u.did ≡ NoneYet → u.guards ≡ 0 → notes_of (with_slot v u.knows u.began) ≡ u
  noted_so v u lone own free did guards =
      ap (λ (o : Option ℕ). noted (knows_by o (row_known v.under u.knows v.work)) NoneYet u.began 0) lone
      ∙ ap (λ (o : Option (ℕ × ℕ)). noted (row_known o u.knows v.work) NoneYet u.began 0) own ∙ ap (λ (k : SeatWork K V S). noted (row_known None u.knows k) NoneYet u.began 0) free ∙ ap (λ (d : Deed (Node K V)). noted u.knows d u.began 0) (sym did)
      ∙ ap (λ (n : ℕ). noted u.knows u.did u.began n) (sym guards)

  -- who has a row to go on with, or begins one, leans on nobody, and has nothing else under way
  free_by : (P : SlotView (Node K V) → Type 0) → ((v : SlotView (Node K V)) → P (busy v) → ⊥) → (P (slot_view.Busy None) → ⊥) → (v : View K V S) → P (notes_of v).knows
      → (v.under ≡ None) × (v.work ≡ Nothing) × P v.slot × (v.by ≡ None)
  free_by P not_busy not_making v p = by v.under v.by v.work refl refl refl p
    where
      by : (under : Option (ℕ × ℕ)) (owner : Option ℕ) (work : SeatWork K V S) → v.under ≡ under → v.by ≡ owner → v.work ≡ work → P (knows_by owner (row_known under v.slot work))
          → (v.under ≡ None) × (v.work ≡ Nothing) × P v.slot × (v.by ≡ None)
      by (Some leant) None work own lone e p = absurd (not_making p)
      by None None Nothing own lone e p = (own, e, p, lone)
      by None None (Calls machine) own lone e p = absurd (not_busy v.slot p)
      by None None (Makes mine m hasher opening) own lone e p = absurd (not_making p)
      by None None (Ends machine) own lone e p = absurd (not_making p)
      by under (Some owner) work own lone e p = absurd (not_busy (row_known under v.slot work) p)

  -- who is noted to stand so, and not to be busy, stands so, and has nothing else under way
  pub knows_free : (v : View K V S) (x : SlotView (Node K V)) → IsFreeSo x → (notes_of v).knows ≡ x → (v.under ≡ None) × (v.work ≡ Nothing) × (v.slot ≡ x) × (v.by ≡ None)
  knows_free v x free is = free_by (λ y. y ≡ x) (λ y e. not_busy y (subst IsFreeSo (sym e) free)) (λ e. subst IsFreeSo (sym e) free) v is
    where
      not_busy : (y : SlotView (Node K V)) → IsFreeSo (busy y) → ⊥
      not_busy (slot_view.Inside t has) is = is
      not_busy _ is = is

  -- who has a row leans on nobody
  pub leans_beside : LeansByTheRest {V = View K V S} Leans notes_of beside_of
  leans_beside v w n rows same_beside leans = by w.under w.by rows leans
    where
      not_busy : (y : SlotView (Node K V)) → IsOfRows (busy y) → ⊥
      not_busy (slot_view.Inside t has) is = is
      not_busy _ is = is

      by : (under : Option (ℕ × ℕ)) (owner : Option ℕ) → IsOfRows (knows_by owner (row_known under w.slot w.work)) → LeansOn under n ⊎ IsBy owner n → Leans v n
      by None None rows (inl none) = absurd none
      by None None rows (inr none) = absurd none
      by (Some leant) None rows one = absurd rows
      by under (Some owner) rows one = absurd (not_busy (row_known under w.slot w.work) rows)

module _ {K S : Type 0} (V : Type 0) (same : K → K → Bool) (hash : S → K → ℕ) where
  abbrev its : (V : Type 0) → View K V S → Option (Map S) × List (BegunCall K V)
  its V v = beside_of v

  pub seats_come_in : SeatsComeIn (Holds {V = V} same hash) KeepsFor notes_of (its V) (λ _. at_rest)
  seats_come_in fixed = (seats_come V same hash fixed, refl)

  pub rows_go_on_in : RowsContinueIn (Holds {V = V} same hash) KeepsFor notes_of (its V) deferred_word (told same hash)
  rows_go_on_in fixed id v op is =
      let k = free_by (λ x. op_of deferred_word x ≡ Some op) (λ x e. busy_op deferred_word x op e) (λ e. cc e) v is in rows_go_on V same hash fixed id v op k.0 k.1 k.2

  pub rows_are_told : RowsAreObserved {T = Node K V} notes_of (its V) deferred_word (told same hash)
  rows_are_told v w op out is tells =
      let k = free_by (λ x. op_of deferred_word x ≡ Some op) (λ x e. busy_op deferred_word x op e) (λ e. cc e) v is in
      let so = subst (λ (x : SeatWork K V S). observed_by same hash v v.map x op out w) k.1 tells in
      let knows : v.slot ≡ knows_by v.by (row_known v.under v.slot v.work) =
      ap (λ (x : SeatWork K V S). row_known None v.slot x) (sym k.1) ∙ ap (λ (o : Option (ℕ × ℕ)). row_known o v.slot v.work) (sym k.0)
      ∙ ap (λ (o : Option ℕ). knows_by o (row_known v.under v.slot v.work)) (sym k.3) in
      let then_ : (notes_of w).knows ≡ so.0 =
      ap (λ (x : View K V S). (notes_of x).knows) so.2 ∙ ap (λ (o : Option ℕ). knows_by o (row_known {S = S} v.under so.0 Nothing)) k.3 ∙ ap (λ (o : Option (ℕ × ℕ)). row_known {S = S} o so.0 Nothing) k.0 in (
        (
          subst (λ (x : SlotView (Node K V)). row_told deferred_word x op out (notes_of w).knows) knows
              (subst (λ (x : SlotView (Node K V)). row_told deferred_word v.slot op out x) (sym then_) so.1),
          ap (λ (x : View K V S). (notes_of x).did) so.2 ∙ subst (λ (x : SlotView (Node K V)). NoneYet ≡ deed x NoneYet op out) knows (no_deed deferred_word v.slot op out k.2),
          ap (λ (x : View K V S). x.began) so.2,
          refl,
        ),
        ap (λ (x : View K V S). beside_of x) so.2,
      )

  pub rows_turn_in : RowsTurnIn (Holds {V = V} same hash) KeepsFor notes_of (its V) Leans
  rows_turn_in fixed id v u may s h at unlent =
      let k = free_by (λ x. IsNext fixed x u.knows) (λ x is. busy_next fixed x u.knows is) (λ is. is) v may.0 in
      let g = rows_turn V same hash fixed id v u.knows u.began k.0 k.1 k.2 s h at unlent in
      (g.0, g.1, g.2, g.3, (ap (λ (x : View K V S). notes_of x) g.4 ∙ noted_so v u k.3 k.0 k.1 may.2 may.3, ap (λ (x : View K V S). beside_of x) g.4))

  pub settlings_begin_in : SettlingsBeginIn (Holds {V = V} same hash) KeepsFor notes_of (its V) Leans
  settlings_begin_in fixed id v way c began is s h at unlent =
      let k = free_by (λ x. IsToSettle fixed x way c) (λ x e. busy_settles fixed x way c e) (λ e. e) v is in
      let g = settlings_begin V same hash fixed id v way c began k.0 k.1 k.2 s h at unlent in
      let knows = ap (λ (x : View K V S). (notes_of x).knows) g.4.1 ∙ ap (λ (o : Option ℕ). knows_by o (row_known v.under (slot_view.Settles c (Retiring way) None g.4.0) v.work)) k.3
      ∙ ap (λ (o : Option (ℕ × ℕ)). row_known o (slot_view.Settles c (Retiring way) None g.4.0) v.work) k.0
      ∙ ap (λ (x : SeatWork K V S). row_known None (slot_view.Settles c (Retiring way) None g.4.0) x) k.1 in
      (g.0, g.1, g.2, g.3, ((g.4.0, knows), refl, ap (λ (x : View K V S). x.began) g.4.1, refl, ap (λ (x : View K V S). beside_of x) g.4.1))

  pub looked_are_shown_in : LookedAreShownIn (Holds {V = V} same hash) KeepsFor notes_of (its V)
  looked_are_shown_in fixed id v c why b left x is =
      let k = free_by (λ y. y ≡ slot_view.Settles c why (Some (b, x)) left) (λ y e. busy_not y c why (Some (b, x)) left e) (λ e. cc e) v is in
      looked_are_shown V same hash fixed id v c why b left x k.2
