-- What ended maps have left over, while others go on: it is behind the roots that the moment says, and roots are used as it says.
use Rattle.std.specs.Prelude.{◌≡◌, ◌<◌, ◌≤◌, ◌==◌, ℕ, suc, Bool, true, false, List, [], ◌∷◌, map, Some, if◌then◌else◌}
use Rattle.std.specs.List.{AllByRecursion}
use Rattle.run_debts.specs.Given.SeizeWordsDeclared.at.At.TheVariants.{Used}
use Rattle.run_debts.specs.Given.SeizeWordsMem.{Mem, word_at}
use Rattle.run_debts.specs.Given.SeizeWorld.{World, LeftTo}
use Rattle.run_debts.specs.Given.TablesDeclared.node.Node.{Node}
use Rattle.run_debts.specs.Given.RunsLifeCycle.{times}
use Rattle.run_debts.specs.Given.SchedulesBeginning.{used_roots}
use Rattle.run_debts.specs.Given.SchedulesLists.{is_among}
use Rattle.run_debts.specs.Given.SchedulesMoment.{Moment, Remains}
use Rattle.run_debts.specs.Given.EffectsKnown.{Known}
use Rattle.run_debts.specs.Given.EffectsDeclared.role.Role.TheVariants as role
use Rattle.run_debts.specs.Given.FinishesEndings.{Finishing}
use Rattle.run_debts.specs.Given.FinishesMaps.{Standing}
use Rattle.run_debts.specs.Given.ReclaimsLeft.{LeftWithEndings}
use Rattle.run_debts.specs.Given.ScenesScene.{Scene}

-- there is something in the list
abbrev pub has_some : List ℕ → Bool
has_some [] = false
has_some (b ∷ list) = true

module _ {K V : Type 0} where
  -- the roots of the maps that are there, and those of what is left over
  abbrev pub map_roots : Moment K V → List ℕ
  map_roots m = map (λ f. f.root) m.maps

  abbrev pub left_roots : Moment K V → List ℕ
  left_roots m = map (λ r. r.root) m.remains

-- what is left over behind a root
abbrev pub left_at : ℕ → List Remains → List ℕ
left_at r [] = []
left_at r (x ∷ remains) = if x.root == r then x.pairs else left_at r remains

-- roots ascend, from this one on
abbrev pub AscendFrom : ℕ → List Remains → Type 0
AscendFrom r [] = Unit {0}
AscendFrom r (x ∷ remains) = (r ≤ x.root) × AscendFrom (suc x.root) remains

-- blocks that are left over before and after are noted as the pairs as which they were
abbrev pub LeftNoted : {K V : Type 0} → Known → Known → World (Node K V) → World (Node K V) → Type 0
LeftNoted known known2 w w2 =
    (b n : ℕ) → known.roles b ≡ role.Pair n → ((j : ℕ) × (w.hand b ≡ LeftTo j)) → ((j : ℕ) × (w2.hand b ≡ LeftTo j)) → known2.roles b ≡ role.Pair n

-- These lists are behind the roots that are nobody's, and the moment tells a root, if no map has it that is there, just where something is behind it: the blocks there are noted, in their order, as the
-- pairs that it tells to be left over behind that root. It tells each of so many roots once, by ascending root. The root of a map that ends is that of one that is there until its event is over.
pub record RefinesRemains {K V : Type 0} (roots : ℕ) (m : Moment K V) (known : Known) (s : Scene K V) : Type 0 where
  pub lists : ℕ → List ℕ
  pub left : LeftWithEndings roots s.world s.maps s.makers s.enders lists
  pub told : (r : ℕ) → r < roots → is_among r (map_roots m) ≡ false → is_among r (left_roots m) ≡ has_some (lists r)
  pub pairs : (r : ℕ) → r < roots → is_among r (map_roots m) ≡ false → map known.roles (lists r) ≡ map role.Pair (left_at r m.remains)
  pub ascending : AscendFrom 0 m.remains
  pub once : (r : ℕ) → times r (used_roots m) ≤ 1
  pub below : (r : ℕ) → is_among r (used_roots m) ≡ true → r < roots
  pub ending : (j : ℕ) (f : Finishing K V) → s.enders j ≡ Some f → is_among f.setting.root (map_roots m) ≡ true

-- each map that is there stands
abbrev pub AllStand : {K V : Type 0} → Moment K V → Scene K V → Type 0
AllStand {K} m s = AllByRecursion (λ f. (standing : Standing K) × (s.maps f.number ≡ Some standing)) m.maps

-- of so many roots those are taken that the moment says, and the others are free
abbrev pub RootsAreTaken : {K V T : Type 0} → ℕ → Moment K V → Mem T → Type 0
RootsAreTaken roots m memory = (r : ℕ) → r < roots → word_at memory (Used r) ≡ Some (if is_among r (used_roots m) then 1 else 0)
