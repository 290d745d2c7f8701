-- What a step within the making of a table leaves of tables: whoever makes it, a call or the making of a map, goes on with it, gives it up, or links it.
use Rattle.std.specs.Prelude.{◌≡◌, ◌≤◌, ℕ, Bool, false, List, [], Option, Some, None, if◌then◌else◌}
use Rattle.std.proofs.Common.{refl, ap, sym, subst, ◌∙◌, arith, inl, inr}
use Rattle.std.proofs.lemmas.Bool.{ne_eqb}
use Rattle.run_debts.specs.Given.SeizeWordsMem.{Mem}
use Rattle.run_debts.specs.Given.SeizeWordsWord.{block_in}
use Rattle.run_debts.specs.Given.SeizeWordsDeclared.at.At.{At}
use Rattle.run_debts.specs.Given.SeizeWordsDeclared.at.At.TheVariants.{Root, Word}
use Rattle.run_debts.specs.Given.SeizeDeclared.advance.Advance.{Advance as Counting}
use Rattle.run_debts.specs.Given.SeizeDeclared.advance.Advance.TheVariants as progress
use Rattle.run_debts.specs.Given.TablesDeclared.node.Node.{Node}
use Rattle.run_debts.specs.Given.TablesDeclared.node.Node.TheVariants as node
use Rattle.run_debts.specs.Given.TablesDeclared.status.TheConstants.Status.{PROMOTED}
use Rattle.run_debts.specs.Given.TablesDeclared.table.Table.{Table as Planned}
use Rattle.run_debts.specs.Given.TablesDeclared.table_words.TheConstants.{NEXT, STATUS}
use Rattle.owner_calls.specs.Given.ResizeNewTable.{new_table_plan}
use Rattle.owner_calls.specs.Given.ResizeDeclared.new_table.Making.TheVariants as making
use Rattle.owner_calls.specs.Given.ResizeDeclared.new_table.NewTable.{NewTable}
use Rattle.run_debts.specs.Given.RunsDeclared.effect.Effect.{Effect}
use Rattle.run_debts.specs.Given.TellerChanged.{kind_of}
use Rattle.run_debts.specs.Given.EffectsDeclared.changed.Changed.{Changed}
use Rattle.run_debts.specs.Given.EffectsDeclared.changed.Changed.TheVariants as changed
use Rattle.run_debts.specs.Given.EffectsDeclared.changed.Kind.TheVariants as kind
use Rattle.run_debts.specs.Given.EffectsEffects.{table_at, names_same, named, taken_by, in_block, effects_of, in_block_on, known_after}
use Rattle.run_debts.specs.Given.EffectsKnown.{Known}
use Rattle.run_debts.specs.Given.EffectsDeclared.acting.Acting.{Acting}
use Rattle.run_debts.specs.Given.EffectsDeclared.role.Role.{Role}
use Rattle.run_debts.specs.Given.EffectsDeclared.role.Role.TheVariants as role
use Rattle.run_debts.proofs.Given.FollowsAlike.{put_here, put_elsewhere}
use Rattle.run_blocks.specs.Owes.Tables.{table_in}
use Rattle.run_blocks.proofs.Owes.Planned.{IsInHands, IsInTurn}
use Rattle.run_blocks.proofs.Owes.Tables.Held.{shape_of, IsLinkThere, its_block}
use Rattle.run_blocks.proofs.Owes.Tables.Hosts.{Step}
use Rattle.run_blocks.proofs.Owes.Tables.Leaves.{IsOneStep, LeavesTables, IsGivenUp, IsLinked, left_as, left_gone, left_made}
use Rattle.run_blocks.proofs.Owes.Tables.Linking.{LinkedSo, root_links, table_links}
use Rattle.run_blocks.proofs.Owes.Tables.Makes.{GoesWithTable, Rests, Marks, Gives, Links, goes_with, made_with}
use Rattle.run_blocks.proofs.Owes.Tables.Roles.{own_table_of}
use Rattle.run_debts.specs.Given.ScenesScene.{Scene}

-- A table that has places is told as a table, with its turn.
pub turn_told : (K V : Type 0) (u : Planned) (len limit turn : ℕ) → 8 ≤ u.len → kind_of {K = K} {V = V} (node.Table u.len u.limit u.turn) ≡ kind.Table len limit turn → u.turn ≡ turn
turn_told K V u len limit turn places is =
    let told : kind.Table u.len u.limit u.turn ≡ kind.Table len limit turn =
    sym (ap (λ (q : Bool). if q then kind.Pair else kind.Table u.len u.limit u.turn) (ne_eqb u.len 0 (λ z. omega (arith, places, z)))) ∙ is in cc told

module _ {K V : Type 0} (its : Acting) (known : Known) (told : Changed) (s t : Scene K V) (i : ℕ) (had now : Option Planned) (many : ℕ) (one : IsOneStep its known told s t i had now many)
    (m m2 : Mem (Node K V)) (n : NewTable) (e : NewTable × Counting Planned) (step : Step m m2 told (new_table_plan n) e) (goes_on : e.1 ≡ progress.Goes → now ≡ table_in e.0.stands)
    (in_turn : IsInTurn many n.stands) where
  abbrev known2 : Known
  known2 = known_after its told known

  abbrev effects : List Effect
  effects = effects_of its known told

  abbrev Left : Type 0
  Left = LeavesTables its known told s t i had now many

  -- It has a table, which is noted so.
  module _ (p : Planned) (has : table_in n.stands ≡ Some p) (had_is : had ≡ Some p) (hands : IsInHands s.world i p) (role_is : known.roles (block_in p.link) ≡ role.OwnTable p.turn (shape_of p))
      (link_there : IsLinkThere known n.link) where
    not_zero : names_same 0 p.link ≡ false
    not_zero = ne_eqb (block_in 0) (block_in p.link) (λ e. (let some = hands.some in let is = its_block s.world i p hands in omega (arith, some, is, e)))

    abbrev Linked' : List Effect → Known → Type 0
    Linked' fs k = LinkedSo its known (block_in p.link) p.turn (shape_of p) fs k

    links_so : told ≡ changed.Wrote n.link 0 p.link → Linked' effects known2
    links_so is = by link_there
      where
        at_place : (place : At) → n.link ≡ place → Linked' (effects_of its known (changed.Wrote place 0 p.link)) (known_after its (changed.Wrote place 0 p.link) known) → Linked' effects known2
        at_place place e so = subst (λ (x : Changed). Linked' (effects_of its known x) (known_after its x known)) (sym (is ∙ ap (λ (a : At). changed.Wrote a 0 p.link) e)) so

        by : IsLinkThere known n.link → Linked' effects known2
        by (inl (r, e)) = at_place (Root r) e (root_links its known (block_in p.link) p.turn (shape_of p) (names_same 0 p.link) (named known 0) (named known p.link) not_zero role_is)
        by (inr (b, len, f, e, owner)) =
            at_place (Word b NEXT) e
            (table_links its known (block_in p.link) p.turn (shape_of p) (names_same 0 p.link) (known.roles b) (named known 0) (named known p.link) len f owner not_zero role_is)

    -- its mark says nothing
    marks_so : (before : ℕ) → told ≡ changed.Wrote (Word (block_in p.link) STATUS) before PROMOTED → (effects ≡ []) × (known2 ≡ known)
    marks_so before is =
        subst (λ (x : Changed). (effects_of its known x ≡ []) × (known_after its x known ≡ known)) (sym is)
        (subst (λ (r : Role). (in_block its r STATUS known.stored (names_same before PROMOTED) (named known before) (named known PROMOTED) ≡ [])
        × (in_block_on its r STATUS (names_same before PROMOTED) (block_in PROMOTED) (named known PROMOTED) known ≡ known)) (sym role_is) (refl, refl))

    gives_up : (found : ℕ) → n.stands ≡ making.Drops p found → told ≡ changed.Took (block_in p.link) → Left
    gives_up found drops took =
        left_gone its known told s t i had now many one p had_is
        (ap (λ (x : Changed). own_table_of ((known_after its x known).roles (block_in p.link))) took ∙ ap own_table_of (put_here (block_in p.link) role.Free known.roles (block_in p.link) refl))
        (λ x ne. ap (λ (y : Changed). (known_after its y known).roles x) took ∙ put_elsewhere (block_in p.link) role.Free known.roles x ne)
        (λ none. IsGivenUp p (ap (effects_of its known) took ∙ ap (taken_by its) role_is) had_is none (subst (IsInTurn many) drops in_turn))

    links : told ≡ changed.Wrote n.link 0 p.link → Left
    links wrote =
        let so = links_so wrote in
        left_gone its known told s t i had now many one p had_is
        (ap (λ (k : Known). own_table_of (k.roles (block_in p.link))) so.1
        ∙ ap own_table_of (put_here (block_in p.link) (role.Table (table_at its p.turn) p.len) known.roles (block_in p.link) refl))
        (λ x ne. ap (λ (k : Known). k.roles x) so.1 ∙ put_elsewhere (block_in p.link) (role.Table (table_at its p.turn) p.len) known.roles x ne)
        (λ none. IsLinked p so.0 had_is none)

    pub with_table : Left
    with_table = by (goes_with m m2 told n p has e step)
      where
        by : GoesWithTable m m2 told n p e → Left
        by (Rests is going has_still) =
            left_as its known told s t i had now many one p had_is (goes_on going ∙ has_still) (ap (λ (x : Changed). (known_after its x known).roles) is) (ap (effects_of its known) is)
        by (Marks before is going has_still) =
            let so = marks_so before is in left_as its known told s t i had now many one p had_is (goes_on going ∙ has_still) (ap (λ (k : Known). k.roles) so.1) so.0
        by (Gives found drops took) = gives_up found drops took
        by (Links wrote) = links wrote

  -- It has none, and makes one.
  pub with_made : had ≡ None → (u : Planned) → n.stands ≡ making.Makes u → 8 ≤ u.len → (b len limit turn : ℕ) → told ≡ changed.Made (kind.Table len limit turn) b
      → kind_of {K = K} {V = V} (node.Table u.len u.limit u.turn) ≡ kind.Table len limit turn → Left
  with_made none u stands places b len limit turn made_it kind_is =
      let it = made_with m m2 told n u stands e step (kind.Table len limit turn) b made_it in
      left_made its known told s t i had now many one none b len limit turn made_it it.table (goes_on it.goes ∙ it.has) (it.turn ∙ turn_told K V u len limit turn places kind_is)
      (subst (λ (x : ℕ). x ≤ many) (sym it.turn) (subst (IsInTurn many) stands in_turn))
