-- A root that comes to lead to a table, and a table that comes to be followed by it: the table is linked, and noted as one of its map.
use Rattle.std.specs.Prelude.{◌≡◌, ℕ, ◌==◌, Bool, false, List, [], ◌∷◌, if◌then◌else◌}
use Rattle.std.proofs.Common.{refl, ap, sym, subst}
use Rattle.std.proofs.lemmas.Bool.{eq-eqb}
use Rattle.run_debts.specs.Given.TablesDeclared.table_words.TheConstants.{NEXT, DEFERRED}
use Rattle.run_debts.specs.Given.RunsDeclared.shapes.TableShape.{TableShape}
use Rattle.run_debts.specs.Given.RunsDeclared.effect.Effect.{Effect}
use Rattle.run_debts.specs.Given.RunsDeclared.effect.Effect.TheVariants as effect
use Rattle.run_debts.specs.Given.RunsDeclared.effect.TableId.{TableId}
use Rattle.run_debts.specs.Given.EffectsEffects.{table_at, followed_by, led_to, carried, placed, spot_at, is_place, in_block, linked_on, stored_on, in_block_on}
use Rattle.run_debts.specs.Given.EffectsKnown.{Known, with_role}
use Rattle.run_debts.specs.Given.EffectsDeclared.acting.Acting.{Acting}
use Rattle.run_debts.specs.Given.EffectsDeclared.role.Role.{Role}
use Rattle.run_debts.specs.Given.EffectsDeclared.role.Role.TheVariants as role

module _ (its : Acting) (known : Known) (b turn : ℕ) (shape : TableShape) where
  abbrev own_role : Role
  own_role = role.OwnTable turn shape

  abbrev pub linked_known : Known
  linked_known = with_role b (role.Table (table_at its turn) shape.len) known

  abbrev pub LinkedSo : List Effect → Known → Type 0
  LinkedSo fs k = (fs ≡ effect.Linked (table_at its turn) shape ∷ []) × (k ≡ linked_known)

  pub root_links : (q : Bool) (was is : Role) → q ≡ false → is ≡ own_role → LinkedSo (if q then [] else led_to its was is) (if q then known else linked_on its b is known)
  root_links q was is e r =
      subst (λ (z : Bool). LinkedSo (if z then [] else led_to its was is) (if z then known else linked_on its b is known)) (sym e)
      (subst (λ (z : Role). LinkedSo (led_to its was z) (linked_on its b z known)) (sym r) (refl, refl))

  -- the word that leads to the next table
  next_links : (was : Role) (len : ℕ) (f : TableId) → LinkedSo (in_block its (role.Table f len) NEXT known.stored false was own_role) (in_block_on its (role.Table f len) NEXT false b own_role known)
  next_links was len f = (
    ap (λ (z : Bool). if z then followed_by its own_role else (if NEXT == DEFERRED then carried f own_role else (if is_place len NEXT then placed (spot_at f NEXT) known.stored was own_role else []))) (eq-eqb NEXT NEXT refl),
    ap (λ (z : Bool). if z then linked_on its b own_role known else (if is_place len NEXT then stored_on b own_role known else known)) (eq-eqb NEXT NEXT refl),
  )

  pub table_links : (q : Bool) (owner was is : Role) (len : ℕ) (f : TableId) → owner ≡ role.Table f len → q ≡ false → is ≡ own_role
      → LinkedSo (in_block its owner NEXT known.stored q was is) (in_block_on its owner NEXT q b is known)
  table_links q owner was is len f o e r =
      subst (λ (z : Role). LinkedSo (in_block its z NEXT known.stored q was is) (in_block_on its z NEXT q b is known)) (sym o)
      (subst (λ (z : Bool). LinkedSo (in_block its (role.Table f len) NEXT known.stored z was is) (in_block_on its (role.Table f len) NEXT z b is known)) (sym e)
      (subst (λ (z : Role). LinkedSo (in_block its (role.Table f len) NEXT known.stored false was z) (in_block_on its (role.Table f len) NEXT false b z known)) (sym r) (next_links was len f)))
