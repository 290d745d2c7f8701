-- Calls of many callers stand together while others register, enter, leave, refresh, flush and give up their slots.
use Rattle.std.specs.Prelude.{◌≡◌, ◌≢◌, ℕ, ◌+◌, Bool, Option, Some, None}
use Rattle.std.proofs.Common.{refl, ap, sym, subst, ◌∙◌}
use Rattle.seize_model.specs.Given.SeizeDeclared.states.TheConstants.{LAST_SLOT}
use Rattle.seize_model.specs.Given.SeizeWorld.{World, Row, Use, Outside, Changing, Begin, Request, Register', Enter', Leave', LeaveOwned, Refresh, Unregister', Retire, Flush, Defer', Happens, IsInside, IsOnto, with_at, one_more}
use Rattle.seize_model.proofs.Given.SeizeRuleRows.Others.{with_other}
use Rattle.seize_model.proofs.Given.SeizeRuleWorld.Kept.{row_may}
use Rattle.map_facts_late.specs.Given.TablesNodes.{deferred_word}
use Rattle.map_facts_late.specs.Given.TablesDeclared.node.Node.{Node}
use Rattle.map_facts_late.specs.Given.TablesDeclared.setting.Setting.{Setting}
use Rattle.map_facts_late.specs.Given.RuleChart.{Chart}
use Rattle.map_facts_late.specs.Given.RuleWords.{Blocks}
use Rattle.map_facts_late.specs.Given.PointsSteps.{AreLawful}
use Rattle.map_facts_late.proofs.Given.RuleWorld.Hands.{at_cases}
use Rattle.many_calls.specs.Sights.{Visible}
use Rattle.many_calls.specs.Together.{UnderWay, UnlessCounts, CameAbout, IsOfSlots, Closes, Together, AllStand, GuardsPreserveTheInvariant}
use Rattle.many_calls.proofs.Together.Came.{came_reached, came_next}
use Rattle.many_calls.proofs.Together.Fits.{unless_on, unless_both}
use Rattle.many_calls.proofs.Together.Handed.{inside_on, inside_back}
use Rattle.many_calls.proofs.Together.Narrowed.{begun, narrowed}
use Rattle.many_calls.proofs.Together.Opened.{opened}

-- nobody is inside a slot that is changing
changing_back : (uses : ℕ → Use) (s r : ℕ) → IsInside (with_at uses s Changing r) → IsInside (uses r)
changing_back uses s r = at_cases (λ (u : Use). IsInside u → IsInside (uses r)) uses s Changing r (λ e h. absurd h) (λ ne h. h)

-- and who is inside another one stays so
changing_on : (uses : ℕ → Use) (s r : ℕ) → r ≢ s → IsInside (uses r) → IsInside (with_at uses s Changing r)
changing_on uses s r ne h = subst (λ (u : Use). IsInside u) (sym (with_other uses s r Changing ne)) h

-- nobody is inside a slot that is outside
not_outside : (uses : ℕ → Use) (s r : ℕ) → uses s ≡ Outside 0 → IsInside (uses r) → r ≢ s
not_outside uses s r out h e = subst (λ (u : Use). IsInside u) (ap uses e ∙ out) h

module _ {K V Q : Type 0} (same : K → K → Bool) (hash : K → ℕ) (asks : Q → K → Bool) (setting : Setting) (slot : ℕ → ℕ) where
  module _ (lawful : AreLawful same hash)
      (w : World (Node K V)) (c : Chart K) (blocks : Blocks) (sights : ℕ → Visible) (calls : ℕ → Option (UnderWay K V Q)) (s : Together V same hash asks setting slot w c blocks sights calls)
      (i : ℕ) (none : calls i ≡ None) where
    other : (j : ℕ) (u : UnderWay K V Q) → calls j ≡ Some u → j ≢ i
    other j u has e = let at : calls j ≡ None = ap calls e ∙ none in cc (at, has)

    module _ (w2 : World (Node K V)) (came : CameAbout setting.batch_size w2) where
      -- it comes to this world
      comes : (row : Row) (uses2 : ℕ → Use) → ((b : ℕ) → IsOnto b row → ⊥) → w2 ≡ begun same hash asks setting slot lawful w c blocks sights calls s (with_at w.row i row) uses2
          → ((r : ℕ) → IsInside (uses2 r) → IsInside (w.uses r)) → ((j : ℕ) (u : UnderWay K V Q) → calls j ≡ Some u → UnlessCounts u (IsInside (uses2 (slot j)))) → AllStand V same hash asks setting slot w2 c blocks calls
      comes row uses2 none_onto e back calls_in =
          subst (λ (v : World (Node K V)). AllStand V same hash asks setting slot v c blocks calls) (sym e)
          (narrowed same hash asks setting slot lawful w c blocks sights calls s (with_at w.row i row) uses2 back
          (subst (λ (v : World (Node K V)). CameAbout setting.batch_size v) e came) calls_in (λ j u has. with_other w.row i j row (other j u has))
          (λ j b. at_cases (λ (r : Row). IsOnto b r → IsOnto b (w.row j)) w.row i row j (λ e on. absurd (none_onto b on)) (λ ne on. on)))

      changes : (row : Row) (t : ℕ) → ((b : ℕ) → IsOnto b row → ⊥) → w2 ≡ begun same hash asks setting slot lawful w c blocks sights calls s (with_at w.row i row) (with_at w.uses t Changing)
          → ((j : ℕ) (u : UnderWay K V Q) → calls j ≡ Some u → UnlessCounts u (slot j ≢ t)) → AllStand V same hash asks setting slot w2 c blocks calls
      changes row t none_onto e apart =
          comes row (with_at w.uses t Changing) none_onto e (changing_back w.uses t)
          (λ j u has. unless_both u (changing_on w.uses t (slot j)) (apart j u has) (s.inside j u has))

      begins : (request : Request) → IsOfSlots request → ((j : ℕ) (u : UnderWay K V Q) → calls j ≡ Some u → UnlessCounts u (Closes request (slot j) → ⊥)) → Happens deferred_word setting.batch_size (Begin i request) w w2
          → AllStand V same hash asks setting slot w2 c blocks calls
      begins (Register' enters) of apart h = comes _ w.uses (λ b on. on) h.1 (λ r inside. inside) (λ j u has. s.inside j u has)
      begins (Enter' t) of apart h = changes _ t (λ b on. on) h.1.1 (λ j u has. unless_on u (not_outside w.uses t (slot j) h.1.0) (s.inside j u has))
      begins (Leave' t) of apart h = changes _ t (λ b on. on) h.1.1 apart
      begins (LeaveOwned t) of apart h = changes _ t (λ b on. on) h.1.1 apart
      begins (Refresh t) of apart h = changes _ t (λ b on. on) h.1.1 apart
      begins (Unregister' t) of apart h = changes _ t (λ b on. on) h.1.1 (λ j u has. unless_on u (not_outside w.uses t (slot j) h.1.0) (s.inside j u has))
      begins (Flush t) of apart h = comes _ (with_at w.uses t (one_more (w.uses t))) (λ b on. on) h.1.1 (inside_back w.uses t) (λ j u has. unless_on u (inside_on w.uses t (slot j)) (s.inside j u has))
      begins (Retire t b) of apart h = absurd of
      begins (Defer' t b d) of apart h = absurd of

  pub guards_stand_together : GuardsPreserveTheInvariant V same hash asks setting slot
  guards_stand_together lawful w c blocks sights calls s i none = (
    λ request of apart w2 h. begins lawful w c blocks sights calls s i none w2 (came_next setting.batch_size w w2 (Begin i request) s.ground.came h) request of apart h,
    row_may deferred_word (LAST_SLOT + 1) setting.batch_size refl w (came_reached setting.batch_size w s.ground.came).good i (w.row i) refl,
    λ w2 h. opened same hash asks setting slot lawful w c blocks sights calls s i none w2 h,
  )
