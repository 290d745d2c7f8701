-- The state as seats knew it, where one of them comes to know something else.
use Rattle.std.specs.Prelude.{◌≢◌, ◌⊎◌, List, Some, slice_get, slice_set, map, option_map}
use Rattle.std.proofs.Common.{◌≡◌, ℕ, inl, inr, refl, sym, subst, ap, ◌∙◌}
use Rattle.std.proofs.lemmas.Bool.{cases_eq}
use Rattle.std.proofs.lemmas.List.{map-set}
use Rattle.std.proofs.lemmas.Option.{slice_get-map}
use Rattle.seize_words.specs.OneMemory.Mem.{Mem}
use Rattle.map_tables.specs.declared.node.Node.{Node}
use Rattle.seize_seats.specs.Seats.State.{State, view_of, after}
use Rattle.seize_seats.proofs.Seats.Stepping.Errands.{mapped_at}
use Rattle.seize_views.proofs.Views.Lists.{there, elsewhere}
use Rattle.seize_reclaims.specs.declared.alone.Alone.{Alone}
use Rattle.threads_rule.specs.Views.Rule.{MapsWorld}
use Rattle.threads_rule.specs.declared.view.View.{View}
use Rattle.threads_reclaims.specs.Reclaims.Rule.{plainly, inside, IsOne}
use Rattle.threads_reclaims.specs.declared.sole.Sole.{Sole}
use Rattle.threads_reclaims.specs.declared.sole.Sole.TheVariants.{Acts}
use Rattle.seize_words.proofs.General.{same_some}

-- what is so of one, and of each other one of a list, is so of each of the list where that one is put in
pub set_but : {A : Type 0} (P : ℕ → A → Type 0) (us : List A) (id : ℕ) (was x : A) → slice_get us id ≡ Some was → P id x
    → ((i : ℕ) (u : A) → i ≢ id → slice_get us i ≡ Some u → P i u) → (i : ℕ) (u : A) → slice_get (slice_set us id x) i ≡ Some u → P i u
set_but {A} P us id was x at_id one others i u at = by (cases_eq i id)
  where
    by : (i ≡ id) ⊎ (i ≢ id) → P i u
    by (inl e) =
        let here : slice_get (slice_set us id x) i ≡ Some x = subst (λ (k : ℕ). slice_get (slice_set us id x) k ≡ Some x) (sym e) (there us id x was at_id) in
        subst (λ (y : A). P i y) (same_some x u (sym here ∙ at)) (subst (λ (k : ℕ). P k x) (sym e) one)
    by (inr ne) = others i u ne (sym (elsewhere us id i x ne) ∙ at)

abbrev St : (K V S : Type 0) → Type 0
St K V S = State (Node K V) (Sole K V S) (MapsWorld K V S)

module _ {K V S : Type 0} where
  pub at_inside : (s : St K V S) (j : ℕ) (v : Sole K V S) → view_of s j ≡ Some v → view_of (inside s) j ≡ Some (plainly v)
  at_inside s j v e = slice_get-map plainly s.views j ∙ ap (option_map plainly) e

  pub from_inside : (s : St K V S) (j : ℕ) (u : View K V S) → view_of (inside s) j ≡ Some u → (v : Sole K V S) × (view_of s j ≡ Some v) × (plainly v ≡ u)
  from_inside s j u e = mapped_at plainly s.views j u e

  pub inside_after : (s : St K V S) (n : Mem (Node K V)) (id : ℕ) (x : Sole K V S) (w : MapsWorld K V S) → inside (after s n id x w) ≡ after (inside s) n id (plainly x) w
  inside_after s n id x w = ap (λ (vs : List (View K V S)). record { memory = n; views = vs; world = w }) (map-set plainly s.views id x)

  -- the one that acts is the only one still
  pub one_on : (s : St K V S) (n : Mem (Node K V)) (id roots : ℕ) (a : Alone (Node K V)) (v : View K V S) (x : Sole K V S) (w : MapsWorld K V S) → view_of s id ≡ Some (Acts a roots v) → IsOne s
      → IsOne (after s n id x w)
  one_on s n id roots a v x w at_id one j k r q b d y z at_j at_k = is_id j r b y at_j ∙ sym (is_id k q d z at_k)
    where
      is_id : (i t : ℕ) (e : Alone (Node K V)) (u : View K V S) → slice_get (slice_set s.views id x) i ≡ Some (Acts e t u) → i ≡ id
      is_id i t e u at = by (cases_eq i id)
        where
          by : (i ≡ id) ⊎ (i ≢ id) → i ≡ id
          by (inl same) = same
          by (inr ne) = one i id t roots e a u v (sym (elsewhere s.views id i x ne) ∙ at) at_id
