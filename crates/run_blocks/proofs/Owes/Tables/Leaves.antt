-- What a step of a caller leaves of tables that are not linked, be it of a call or of the making of a map: its own table is as it was, or was made, given up or linked.
use Rattle.std.specs.Prelude.{◌≡◌, ◌≢◌, ◌<◌, ◌≤◌, ℕ, List, [], ◌∷◌, Option, Some, None}
use Rattle.std.proofs.Common.{refl, ap, sym, subst, ◌∙◌, inl, inr}
use Rattle.std.proofs.lemmas.Bool.{cases_eq}
use Rattle.run_debts.specs.Given.SeizeWordsWord.{block_in}
use Rattle.run_debts.specs.Given.TablesDeclared.table.Table.{Table as Planned}
use Rattle.run_debts.specs.Given.RunsDeclared.shapes.TableShape.{TableShape}
use Rattle.run_debts.specs.Given.RunsDeclared.effect.Effect.{Effect}
use Rattle.run_debts.specs.Given.RunsDeclared.effect.Effect.TheVariants as effect
use Rattle.run_debts.specs.Given.RunsDeclared.effect.Growth.TheVariants.{ABlock}
use Rattle.run_debts.specs.Given.RunsDeclared.effect.TableId.{TableId}
use Rattle.run_debts.specs.Given.EffectsDeclared.changed.Changed.{Changed}
use Rattle.run_debts.specs.Given.EffectsDeclared.changed.Changed.TheVariants as changed
use Rattle.run_debts.specs.Given.EffectsDeclared.changed.Kind.TheVariants as kind
use Rattle.run_debts.specs.Given.EffectsEffects.{table_at, effects_of, known_after}
use Rattle.run_debts.specs.Given.EffectsKnown.{Known}
use Rattle.run_debts.specs.Given.EffectsDeclared.acting.Acting.{Acting}
use Rattle.run_debts.specs.Given.EffectsDeclared.role.Role.{Role}
use Rattle.run_debts.specs.Given.EffectsDeclared.role.Role.TheVariants as role
use Rattle.run_debts.proofs.Given.FollowsAlike.{put_here, put_elsewhere}
use Rattle.run_blocks.specs.Owes.Tables.{HoldsTable}
use Rattle.run_blocks.proofs.Owes.Held.{IsInHand}
use Rattle.run_blocks.proofs.Owes.Tables.Held.{shape_of, IsNoted}
use Rattle.run_blocks.proofs.Owes.Tables.Roles.{own_table_of, own_table_is, NoneOfTable, DoesToTables, Leaves, Makes, GivesUp, Links}
use Rattle.run_debts.specs.Given.ScenesScene.{Scene}

module _ {K V : Type 0} (its : Acting) (known : Known) (told : Changed) (s t : Scene K V) (i : ℕ) (had now : Option Planned) (many : ℕ) where
  abbrev known2 : Known
  known2 = known_after its told known

  abbrev effects : List Effect
  effects = effects_of its known told

  abbrev its_table : Planned → TableId
  its_table p = table_at its p.turn

  -- This caller had that table before, if any, and has this one now; each other one has what it had.
  pub record IsOneStep : Type 0 where
    pub whose : (b turn : ℕ) (shape : TableShape) → known.roles b ≡ role.OwnTable turn shape → (j : ℕ) × HoldsTable s j b
    pub own : (b : ℕ) → HoldsTable s i b → (p : Planned) × (had ≡ Some p) × (b ≡ block_in p.link)
    pub others : (j b : ℕ) → j ≢ i → HoldsTable s j b → HoldsTable t j b
    pub now_holds : (p : Planned) → now ≡ Some p → HoldsTable t i (block_in p.link)
    pub hands : (j b : ℕ) → HoldsTable t j b → IsInHand t.world j b
    pub noted : (j b : ℕ) → HoldsTable t j b → IsNoted known2 b

  -- how it comes to it, by which effects, and of which turn its table is, where the map has had so many
  pub data TableGoes : Type 0 where
    Stays : NoneOfTable effects → now ≡ had → TableGoes
    IsMade : (p : Planned) → effects ≡ effect.Asked ABlock ∷ effect.TableMade (its_table p) ∷ [] → had ≡ None → now ≡ Some p → p.turn ≤ many → TableGoes
    IsGivenUp : (p : Planned) → effects ≡ effect.TableGivenUp (its_table p) ∷ [] → had ≡ Some p → now ≡ None → p.turn < many → TableGoes
    IsLinked : (p : Planned) → effects ≡ effect.Linked (its_table p) (shape_of p) ∷ [] → had ≡ Some p → now ≡ None → TableGoes

  -- and each table that is not linked is somebody's
  pub record LeavesTables : Type 0 where
    pub goes : TableGoes
    pub whose : (b turn : ℕ) (shape : TableShape) → known2.roles b ≡ role.OwnTable turn shape → (j : ℕ) × HoldsTable t j b

  module _ (one : IsOneStep) where
    pub none_own : had ≡ None → (b : ℕ) → HoldsTable s i b → ⊥
    none_own none b holds = (let it = one.own b holds in let has = it.1 in cc (none, has))

    own_block : (p : Planned) → had ≡ Some p → (b : ℕ) → HoldsTable s i b → b ≡ block_in p.link
    own_block p has b holds =
        let it = one.own b holds in
        let same_table : it.0 ≡ p = (let was = it.1 in cc (was, has)) in it.2 ∙ ap (λ (x : Planned). block_in x.link) same_table

    -- what another one had is noted still
    others_noted : (j b : ℕ) → j ≢ i → HoldsTable s j b → IsNoted known2 b
    others_noted j b ne holds = one.noted j b (one.others j b ne holds)

    -- a table that is noted as another thing then was this caller's
    pub lost_own : (b turn : ℕ) (shape : TableShape) → known.roles b ≡ role.OwnTable turn shape → (IsNoted known2 b → ⊥) → HoldsTable s i b
    lost_own b turn shape was lost = by (one.whose b turn shape was)
      where
        by : (j : ℕ) × HoldsTable s j b → HoldsTable s i b
        by (j, holds) = elim (cases_eq j i) as (λ _. HoldsTable s i b) [
          | inl e ↦ subst (λ (k : ℕ). HoldsTable s k b) e holds
          | inr ne ↦ absurd (lost (others_noted j b ne holds))
        ]

    abbrev IsOthers : ℕ → Type 0
    IsOthers b = (j : ℕ) × (j ≢ i) × HoldsTable s j b

    -- two have not the same one
    apart_hands : (b : ℕ) → IsOthers b → HoldsTable t i b → ⊥
    apart_hands b it mine =
        (let theirs = (one.hands it.0 b (one.others it.0 b it.1 it.2)).hand in
        let own_hand = (one.hands i b mine).hand in it.1 (let who : it.0 ≡ i = cc (theirs, own_hand) in who))

    -- where each table that is noted is one that another had, this caller has none
    now_none : ((b turn : ℕ) (shape : TableShape) → known2.roles b ≡ role.OwnTable turn shape → IsOthers b) → now ≡ None
    now_none remain = by now refl
      where
        by : (o : Option Planned) → now ≡ o → o ≡ None
        by None e = refl
        by (Some p) e =
            absurd (let mine = one.now_holds p e in
            let noted = one.noted i (block_in p.link) mine in apart_hands (block_in p.link) (remain (block_in p.link) noted.0 noted.1 noted.2) mine)

    theirs_then : (b : ℕ) → IsOthers b → (j : ℕ) × HoldsTable t j b
    theirs_then b it = (it.0, one.others it.0 b it.1 it.2)

    -- It had none, and tables are as they were.
    module _ (none : had ≡ None) (still : (x : ℕ) → own_table_of (known2.roles x) ≡ own_table_of (known.roles x)) (quiet : NoneOfTable effects) where
      all_others : (b turn : ℕ) (shape : TableShape) → known2.roles b ≡ role.OwnTable turn shape → IsOthers b
      all_others b turn shape is =
          let it = one.whose b turn shape (own_table_is (known.roles b) turn shape (sym (still b) ∙ ap own_table_of is)) in
          (it.0, (λ e. none_own none b (subst (λ (j : ℕ). HoldsTable s j b) e it.1)), it.1)

      pub left_none : LeavesTables
      left_none = record { goes = Stays quiet (now_none all_others ∙ sym none); whose = λ b turn shape is. theirs_then b (all_others b turn shape is) }

    -- Its table is gone, or linked.
    module _ (p : Planned) (has : had ≡ Some p) (not_it : own_table_of (known2.roles (block_in p.link)) ≡ None) (elsewhere : (x : ℕ) → x ≢ block_in p.link → known2.roles x ≡ known.roles x)
        (goes_so : now ≡ None → TableGoes) where
      other_block : (b turn : ℕ) (shape : TableShape) → known2.roles b ≡ role.OwnTable turn shape → b ≢ block_in p.link
      other_block b turn shape is e =
          (let some : ◌≡◌ {A = Option (ℕ × TableShape)} None (Some (turn, shape)) = sym not_it ∙ ap (λ (x : ℕ). own_table_of (known2.roles x)) (sym e) ∙ ap own_table_of is in cc some)

      remaining : (b turn : ℕ) (shape : TableShape) → known2.roles b ≡ role.OwnTable turn shape → IsOthers b
      remaining b turn shape is =
          let ne = other_block b turn shape is in
          let it = one.whose b turn shape (sym (elsewhere b ne) ∙ is) in
          (it.0, (λ e. ne (own_block p has b (subst (λ (j : ℕ). HoldsTable s j b) e it.1))), it.1)

      pub left_gone : LeavesTables
      left_gone = record { goes = goes_so (now_none remaining); whose = λ b turn shape is. theirs_then b (remaining b turn shape is) }

    -- It goes on with its table.
    module _ (p : Planned) (has : had ≡ Some p) (with_it : now ≡ Some p) (roles : known2.roles ≡ known.roles) (quiet : effects ≡ []) where
      whose_still : (b turn : ℕ) (shape : TableShape) → known2.roles b ≡ role.OwnTable turn shape → (j : ℕ) × HoldsTable t j b
      whose_still b turn shape is = by (one.whose b turn shape (ap (λ (f : ℕ → Role). f b) (sym roles) ∙ is))
        where
          by : (j : ℕ) × HoldsTable s j b → (j : ℕ) × HoldsTable t j b
          by (j, holds) = elim (cases_eq j i) as (λ _. (k : ℕ) × HoldsTable t k b) [
            | inl e ↦ (i, subst (HoldsTable t i) (sym (own_block p has b (subst (λ (k : ℕ). HoldsTable s k b) e holds))) (one.now_holds p with_it))
            | inr ne ↦ (j, one.others j b ne holds)
          ]

      pub left_as : LeavesTables
      left_as = record { goes = Stays (subst NoneOfTable (sym quiet) tt) (with_it ∙ sym has); whose = whose_still }

    -- It has made one, in this block.
    module _ (none : had ≡ None) (b len limit turn : ℕ) (made_it : told ≡ changed.Made (kind.Table len limit turn) b) (p : Planned) (with_it : now ≡ Some p) (turn_is : p.turn ≡ turn) (in_turn : p.turn ≤ many) where
      abbrev made_role : Role
      made_role = role.OwnTable turn (record { len = len; limit = limit })

      elsewhere_made : (y : ℕ) → y ≢ b → known2.roles y ≡ known.roles y
      elsewhere_made y ne = ap (λ (z : Changed). (known_after its z known).roles y) made_it ∙ put_elsewhere b made_role known.roles y ne

      before_made : (y r : ℕ) (shape : TableShape) → y ≢ b → known2.roles y ≡ role.OwnTable r shape → IsOthers y
      before_made y r shape ne is =
          let it = one.whose y r shape (sym (elsewhere_made y ne) ∙ is) in (it.0, (λ e. none_own none y (subst (λ (j : ℕ). HoldsTable s j y) e it.1)), it.1)

      -- no other block can be that of its table
      block_is : b ≡ block_in p.link
      block_is = elim (cases_eq (block_in p.link) b) as (λ _. b ≡ block_in p.link) [
        | inl e ↦ sym e
        | inr ne ↦ absurd (
            let mine = one.now_holds p with_it in
            let noted = one.noted i (block_in p.link) mine in apart_hands (block_in p.link) (before_made (block_in p.link) noted.0 noted.1 ne noted.2) mine
            )
      ]

      whose_made : (y r : ℕ) (shape : TableShape) → known2.roles y ≡ role.OwnTable r shape → (j : ℕ) × HoldsTable t j y
      whose_made y r shape is = elim (cases_eq y b) as (λ _. (j : ℕ) × HoldsTable t j y) [
        | inl e ↦ (i, subst (HoldsTable t i) (sym (e ∙ block_is)) (one.now_holds p with_it))
        | inr ne ↦ theirs_then y (before_made y r shape ne is)
      ]

      abbrev two_effects : ℕ → List Effect
      two_effects k = effect.Asked ABlock ∷ effect.TableMade (table_at its k) ∷ []

      pub left_made : LeavesTables
      left_made = record { goes = IsMade p (ap (effects_of its known) made_it ∙ ap two_effects (sym turn_is)) none with_it in_turn; whose = whose_made }

    -- Whatever was done, by one that had none: a table that is noted as another thing then was its own.
    module _ (none : had ≡ None) (made_so : (b len limit turn : ℕ) → told ≡ changed.Made (kind.Table len limit turn) b → LeavesTables) where
      pub left_without : DoesToTables its known told → LeavesTables
      left_without (Leaves still quiet) = left_none none still quiet
      left_without (Makes b len limit turn made_it free) = made_so b len limit turn made_it
      left_without (GivesUp b turn shape took was) =
          absurd (none_own none b (lost_own b turn shape was (λ noted.
          (let gone : known2.roles b ≡ role.Free = ap (λ (x : Changed). (known_after its x known).roles b) took ∙ put_here b role.Free known.roles b refl in
          let still_noted = noted.2 in cc (gone, still_noted)))))
      left_without (Links b turn shape was is others effects_are) = absurd (none_own none b (lost_own b turn shape was (λ noted. (let still_noted = noted.2 in cc (is, still_noted)))))
