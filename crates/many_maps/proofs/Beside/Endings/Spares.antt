-- What others leave of a map that ends while they take their steps: its blocks, what is left over, its root, and what lies behind its tables.
use Rattle.std.specs.Prelude.{◌≡◌, ℕ, Some, ◌⊎◌}
use Rattle.std.proofs.Common.{sym, subst, ◌∙◌, inl, inr}
use Rattle.many_calls.specs.Given.SeizeWordsDeclared.at.At.TheVariants.{Root, Used, Entry, Word}
use Rattle.many_calls.specs.Given.SeizeWordsMem.{value_at, word_at}
use Rattle.many_calls.specs.Given.SeizeDeclared.states.TheConstants.{NEXT}
use Rattle.many_calls.specs.Given.SeizeLaw.{owner_of, is_orphan, is_over}
use Rattle.many_calls.specs.Given.SeizeWorld.{World, Making, InUse, LeftTo, IsOnto}
use Rattle.many_calls.proofs.Given.SeizeAloneHistories.NotTaken.{kept_there}
use Rattle.many_calls.proofs.Given.SeizeAloneSpared.Users.{IsNoList}
use Rattle.many_calls.specs.Given.TablesNodes.{deferred_word}
use Rattle.many_calls.specs.Given.TablesDeclared.node.Node.{Node}
use Rattle.many_calls.specs.Given.TablesDeclared.node.Node.TheVariants as node
use Rattle.many_calls.specs.Given.RuleInWorld.{IsHeldBy}
use Rattle.many_calls.specs.Kept.{IsUsersOwn, IsMaking}
use Rattle.many_calls.specs.Together.{CameAbout}
use Rattle.many_calls.proofs.Rows.Behind.{LaySo, lay_then}
use Rattle.many_calls.proofs.Rows.Keep.{kept_block}
use Rattle.many_calls.proofs.Together.Came.{came_reached}
use Rattle.many_calls.proofs.Given.General.{some_there}

module _ {K V : Type 0} (w : World (Node K V)) where
  -- the block is in use, and this owner's
  abbrev pub IsUsedOf : ℕ → ℕ → Type 0
  IsUsedOf owner b = (w.hand b ≡ InUse owner) × (owner_of b w.log ≡ owner)

  -- or it is left over to this caller
  abbrev pub IsOfEnd : ℕ → ℕ → ℕ → Type 0
  IsOfEnd owner i b = IsUsedOf owner b ⊎ (w.hand b ≡ LeftTo i)

  module _ (w2 : World (Node K V)) where
    -- A block is as it was: its value, its words save the one that a list begins with, who has it, whose it is, and whether its owner has ended.
    pub record IsSpared (b : ℕ) : Type 0 where
      pub value : value_at w2.memory b ≡ value_at w.memory b
      pub words : (field word : ℕ) → IsNoList deferred_word w.memory b field → word_at w.memory (Word b field) ≡ Some word → word_at w2.memory (Word b field) ≡ Some word
      pub hand : w2.hand b ≡ w.hand b
      pub owner : owner_of b w2.log ≡ owner_of b w.log
      pub orphan : is_orphan b w2.log ≡ is_orphan b w.log
      pub over : is_over b w2.log ≡ is_over b w.log

    -- So is each block in use of this owner, each that is left over to this caller, with its link, and the owner, which is a counter. Nothing came behind a block of its,
    -- and no row onto one. The root leads where it led, and is taken as it was.
    pub record SparesEnd (size owner root i : ℕ) : Type 0 where
      pub came : CameAbout size w2
      pub blocks : (b : ℕ) → IsOfEnd owner i b → IsSpared b
      pub counter : value_at w.memory owner ≡ Some node.Shards → IsMaking (w.hand owner) → IsSpared owner
      pub links : (b word : ℕ) → w.hand b ≡ LeftTo i → word_at w.memory (Entry b NEXT) ≡ Some word → word_at w2.memory (Entry b NEXT) ≡ Some word
      pub behind : (b x : ℕ) → IsUsedOf owner b → LaySo x b w w2
      pub onto : (b j : ℕ) → IsUsedOf owner b → IsOnto b (w2.row j) → IsOnto b (w.row j)
      pub root_leads : (word : ℕ) → word_at w.memory (Root root) ≡ Some word → word_at w2.memory (Root root) ≡ Some word
      pub root_used : word_at w.memory (Used root) ≡ Some 1 → word_at w2.memory (Used root) ≡ Some 1

  -- users have such a block, nobody has it who made it or took it out, and it is there
  pub end_own : (owner i b : ℕ) → IsOfEnd owner i b → IsUsersOwn (w.hand b)
  end_own owner i b (inl used) = subst IsUsersOwn (sym used.0) tt
  end_own owner i b (inr left) = subst IsUsersOwn (sym left) tt

  pub end_not_made : (owner i b : ℕ) → IsOfEnd owner i b → (j : ℕ) → w.hand b ≡ Making j → ⊥
  end_not_made owner i b (inl used) j making = (let is = used.0 in cc (is, making))
  end_not_made owner i b (inr left) j making = cc (left, making)

  pub end_not_held : (owner i b : ℕ) → IsOfEnd owner i b → (j : ℕ) → IsHeldBy j (w.hand b) → ⊥
  end_not_held owner i b (inl used) j held = subst (IsHeldBy j) used.0 held
  end_not_held owner i b (inr left) j held = subst (IsHeldBy j) left held

pub end_there : {K V : Type 0} (size : ℕ) (w : World (Node K V)) → CameAbout size w → (owner i b : ℕ) → IsOfEnd w owner i b → (value : Node K V) × (value_at w.memory b ≡ Some value)
end_there size w came owner i b of = some_there (value_at w.memory b) (kept_there deferred_word size w (came_reached size w came) b (kept_block w b (inl (end_own w owner i b of))))

-- one step after another
module _ {K V : Type 0} (w v w2 : World (Node K V)) where
  spared_on : (b : ℕ) → IsSpared w v b → IsSpared v w2 b → IsSpared w w2 b
  spared_on b first then = record {
    value = then.value ∙ first.value;
    words = λ field word no is. then.words field word (λ value here. no value (sym first.value ∙ here)) (first.words field word no is);
    hand = then.hand ∙ first.hand;
    owner = then.owner ∙ first.owner;
    orphan = then.orphan ∙ first.orphan;
    over = then.over ∙ first.over;
  }

  used_on : (owner b : ℕ) → IsUsedOf w owner b → IsSpared w v b → IsUsedOf v owner b
  used_on owner b used first = (first.hand ∙ used.0, first.owner ∙ used.1)

  end_on : (owner i b : ℕ) → IsOfEnd w owner i b → IsSpared w v b → IsOfEnd v owner i b
  end_on owner i b (inl used) first = inl (used_on owner b used first)
  end_on owner i b (inr left) first = inr (first.hand ∙ left)

  pub spares_then : (size owner root i : ℕ) → SparesEnd w v size owner root i → SparesEnd v w2 size owner root i → SparesEnd w w2 size owner root i
  spares_then size owner root i first then = record {
    came = then.came;
    blocks = λ b of. let one = first.blocks b of in spared_on b one (then.blocks b (end_on owner i b of one));
    counter = λ is making. let one = first.counter is making in spared_on owner one (then.counter (one.value ∙ is) (subst IsMaking (sym one.hand) making));
    links = λ b word left is. then.links b word ((first.blocks b (inr left)).hand ∙ left) (first.links b word left is);
    behind = λ b x used. lay_then x b w v w2 (first.behind b x used) (then.behind b x (used_on owner b used (first.blocks b (inl used))));
    onto = λ b j used on. first.onto b j used (then.onto b j (used_on owner b used (first.blocks b (inl used))) on);
    root_leads = λ word is. then.root_leads word (first.root_leads word is);
    root_used = λ is. then.root_used (first.root_used is);
  }
