-- What a step of a making comes to, before it is put together with the other makings and the maps that stand.
use Rattle.std.specs.Prelude.{◌≡◌, ◌≤◌, ◌^◌, ℕ, Bool, max, [], Option, Some, None, ◌⊎◌}
use Rattle.std.proofs.Common.{refl, sym, subst, ◌∙◌, inl}
use Rattle.many_calls.specs.Given.SeizeWordsDeclared.at.At.TheVariants.{Used}
use Rattle.many_calls.specs.Given.SeizeWordsMem.{Mem, value_at, word_at}
use Rattle.many_calls.specs.Given.SeizeWorld.{World}
use Rattle.many_calls.specs.Given.SeizeDeclared.advance.Advance.{Advance}
use Rattle.many_calls.specs.Given.SeizeDeclared.advance.Advance.TheVariants as progress
use Rattle.many_calls.specs.Given.TablesLengths.{IsTableLen}
use Rattle.many_calls.specs.Given.TablesDeclared.node.Node.{Node}
use Rattle.many_calls.specs.Given.TablesDeclared.setting.Setting.{Setting}
use Rattle.many_calls.specs.Given.ResizeNewMap.{at_root, with_counter}
use Rattle.many_calls.specs.Given.ResizeDeclared.new_map.NewMap.{NewMap}
use Rattle.many_calls.specs.Given.RuleInWorld.{IsOut}
use Rattle.many_calls.proofs.Given.RuleWorld.OthersSpared.{keeps_same}
use Rattle.many_maps.specs.Makings.{Beginning, HasTaken, HasMade, HasRoots, OpeningFacts, MakingFacts, IsMade, IsFirstTable, PreservesItsOwn, HasComeTo}
use Rattle.many_maps.specs.Maps.{Standing}
use Rattle.many_calls.specs.Together.{UnderWay, Together}
use Rattle.many_maps.proofs.Beside.Makings.Leaves.{IsItsRoot, LeavesOthers}

module _ {K Q : Type 0} (V : Type 0) (same : K → K → Bool) (asks : Q → K → Bool) (batch_size roots : ℕ) (slot : ℕ → ℕ) (w : World (Node K V)) (i : ℕ) (b : Beginning K) where
  -- the root is the one that it has, or was free
  abbrev pub IsOwnRoot : ℕ → Type 0
  IsOwnRoot r = IsItsRoot i b.machine w r ⊎ (word_at w.memory (Used r) ≡ Some 0)

  -- the counter is the one that it has, or was not there
  abbrev pub IsOwnCounter : ℕ → Type 0
  IsOwnCounter x = (HasMade b.machine.stands × (x ≡ b.machine.setting.counter)) ⊎ (value_at w.memory x ≡ None)

  -- A map stands, with whatever calls there are on it, which are none.
  pub record MakesMap (w2 : World (Node K V)) (answer : Setting) : Type 0 where
    pub s : Standing K
    pub made : IsMade V same asks batch_size roots slot b answer s
    pub together : (calls : ℕ → Option (UnderWay K V Q)) → ((j : ℕ) → calls j ≡ None) → Together V same s.hash asks s.setting slot w2 s.chart s.blocks s.sights calls
    pub root : IsOwnRoot s.setting.root
    pub counter : IsOwnCounter s.setting.counter
    pub used : word_at w2.memory (Used s.setting.root) ≡ Some 1

  -- it goes on with what its next point knows, or its map stands, or it is refused
  abbrev pub GoesTo : World (Node K V) → NewMap × Advance Setting → Type 0
  GoesTo w2 (n, progress.Goes) =
      MakingFacts w2 same batch_size roots i (record b { machine = n }) × (HasTaken n.stands → IsOwnRoot n.setting.root) × (HasMade n.stands → IsOwnCounter n.setting.counter)
  GoesTo w2 (n, progress.Waits) = ⊥
  GoesTo w2 (n, progress.Done answer) = MakesMap w2 answer
  GoesTo w2 (n, progress.Refused fault) = Unit {0}

  -- A step of it came to this memory.
  pub record MakingWent (m2 : Mem (Node K V)) (end : NewMap × Advance Setting) : Type 0 where
    pub w2 : World (Node K V)
    pub memory : w2.memory ≡ m2
    pub left : LeavesOthers i b.machine w w2 batch_size roots
    pub keeps : PreservesItsOwn V same asks batch_size roots slot w w2 b.machine end
    pub unused : (r : ℕ) → word_at w.memory (Used r) ≡ Some 0 → (word_at w2.memory (Used r) ≡ Some 0) ⊎ HasComeTo {Q = Q} V same asks batch_size roots slot end r
    pub links : (x : ℕ) → IsOut (w2.hand x) → IsOut (w.hand x) ⊎ IsFirstTable w2 end x
    pub told : GoesTo w2 end

  module _ (f : MakingFacts w same batch_size roots i b) (free : HasRoots w roots) where
    -- it stands elsewhere, with the setting that it is to have
    pub facts_at : (v : World (Node K V)) (n : NewMap) → n.setting ≡ with_counter (at_root b.given n.setting.root) n.setting.counter → n.roots ≡ b.machine.roots → n.len ≡ b.machine.len
        → OpeningFacts v roots i n n.stands → MakingFacts v same batch_size roots i (record b { machine = n })
    facts_at v n is many long point = record {
      lawful = f.lawful;
      initial = f.initial;
      batches = f.batches;
      mask = f.mask;
      setting_is = is;
      roots_are = subst (λ (x : ℕ). x ≡ roots) (sym many) f.roots_are;
      len_is = long ∙ f.len_is;
      len = subst (λ (x : ℕ). max x 8 ≤ 2 ^ 48 → IsTableLen (max x 8)) (sym long) f.len;
      point = point;
    }

    left_same : LeavesOthers i b.machine w w batch_size roots
    left_same = record {
      events = [];
      users = tt;
      runs = refl;
      blocks = λ x value there other. record { value = refl; words = λ field word is. is; hand = refl; owner = refl; orphan = refl; over = refl; place = refl; link = λ word apart is. is };
      root = λ r word is other. is;
      used = λ r is other. is;
      free = free;
      own = λ j other. keeps_same j w.memory w.hand;
    }

    -- the step changed nothing
    pub still : (m2 : Mem (Node K V)) → m2 ≡ w.memory → (end other : NewMap × Advance Setting) → end ≡ other → PreservesItsOwn V same asks batch_size roots slot w w b.machine other → GoesTo w other → MakingWent m2 end
    still m2 is end other e keeps told = record {
      w2 = w;
      memory = sym is;
      left = left_same;
      keeps = subst (PreservesItsOwn V same asks batch_size roots slot w w b.machine) (sym e) keeps;
      unused = λ r is. inl is;
      links = λ x out. inl out;
      told = subst (GoesTo w) (sym e) told;
    }
