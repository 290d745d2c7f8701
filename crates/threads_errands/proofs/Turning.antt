-- Turns of a seat: none at all is one, and what comes to be known by a second, after a first, may come to be known at once.
use Rattle.std.specs.Prelude.{slice_get, slice_set, Some}
use Rattle.std.proofs.Common.{◌≡◌, ◌≢◌, ℕ, List, refl, sym, subst, ap, ◌∙◌}
use Rattle.std.proofs.lemmas.List.{set-set, set-get_or}
use Rattle.std.proofs.lemmas.Option.{get_or_from_slice_get}
use Rattle.seize_blocks.specs.Given.SeizeSeatsState.{State, Turns, view_of, after}
use Rattle.seize_views.proofs.Views.Lists.{there, elsewhere}

same_there : {X : Type 0} (xs : List X) (k : ℕ) (x : X) → slice_get xs k ≡ Some x → slice_set xs k x ≡ xs
same_there {X} xs k x at = ap (λ (y : X). slice_set xs k y) (sym (get_or_from_slice_get xs k x x at)) ∙ set-get_or xs k x

module _ {T V W : Type 0} (holds : State T V W → Type 0) (keeps : V → V → W → ℕ → Type 0) (id : ℕ) (v : V) where
  pub turns_none : Turns holds keeps id v (λ w. w ≡ v)
  turns_none s h at = (
    v,
    s.world,
    subst (λ (vs : List V). holds record { memory = s.memory; views = vs; world = s.world }) (sym (same_there s.views id v at)) h,
    λ j k b u o ne other first second kept. kept,
    refl,
  )

  pub turns_as : (so other : V → Type 0) → ((w : V) → so w → other w) → Turns holds keeps id v so → Turns holds keeps id v other
  turns_as so other is may s h at = let g = may s h at in (g.0, g.1, g.2, g.3, is g.0 g.4)

  pub turns_then : (first second : V → Type 0) → Turns holds keeps id v first → ((w : V) → first w → Turns holds keeps id w second) → Turns holds keeps id v second
  turns_then first second one other s h at =
      let g = one s h at in
      let m = other g.0 g.4 (after s s.memory id g.0 g.1) g.2 (there s.views id g.0 v at) in
      let before : (j : ℕ) (u : V) → j ≢ id → view_of s j ≡ Some u → view_of (after s s.memory id g.0 g.1) j ≡ Some u = λ j u ne its. elsewhere s.views id j g.0 ne ∙ its in (
        m.0,
        m.1,
        subst (λ (vs : List V). holds record { memory = s.memory; views = vs; world = m.1 }) (set-set s.views id g.0 m.0) m.2,
        λ j k b u o ne apart its theirs kept. m.3 j k b u o ne apart (before j u ne its) (before k o apart theirs) (g.3 j k b u o ne apart its theirs kept),
        m.4,
      )
