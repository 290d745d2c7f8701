-- What has happened to the memory of one owner goes on with what its users do to their blocks and to the words of their own.
use Rattle.std.specs.Prelude.{Option, Ok}
use Rattle.std.proofs.Common.{◌≡◌, ℕ, [], ◌∷◌, ◌++◌, replicate, refl, subst, sym}
use Rattle.seize.specs.Given.SeizeWordsOp.{Op, Out, Make, Take, Made}
use Rattle.seize.specs.Given.SeizeWordsMem.{Mem, Took}
use Rattle.seize.specs.World.{Making, InUse, LeftTo, Makes, Links, Unlinks, Operates, Clears, Chooses, HasListWord, IsOwnOp, MayClear, MayCut}
use Rattle.seize_model.specs.Alone.Alone.{History, IsHistory, nothing_yet, made, linked, unlinked, cleared}
use Rattle.seize_model.proofs.Alone.Histories.Calls.{happened_history}

-- a memory with as many roots, and nothing else
pub start_history : {T : Type 0} (defers : T → Option ℕ) (batch_size roots : ℕ)
    → IsHistory defers batch_size roots (record { roots = replicate roots 0; used = replicate roots 0; slots = []; blocks = []; choices = [] }) nothing_yet
start_history defers batch_size roots = ([], (refl, refl))

module _ {T : Type 0} (defers : T → Option ℕ) (batch_size roots : ℕ) (m m2 : Mem T) (h : History) (had : IsHistory defers batch_size roots m h) where
  pub made_history : (value : T) (words b : ℕ) → HasListWord defers (defers value) words → Took m (Make value words) (Made (Ok b)) m2 → IsHistory defers batch_size roots m2 (made b h)
  made_history value words b list took = happened_history defers batch_size roots m m2 h (made b h) had (Makes 0 value words) tt refl (Made (Ok b), m2, list, took, refl) refl

  pub operated_history : (op : Op T) (out : Out T) → IsOwnOp defers m op → Took m op out m2 → IsHistory defers batch_size roots m2 h
  operated_history op out own took = happened_history defers batch_size roots m m2 h h had (Operates op) tt refl (out, m2, own, took, refl) refl

  pub cleared_history : (b : ℕ) (out : Out T) → h.hand b ≡ LeftTo 0 → MayClear b h.log → Took m (Take b) out m2 → IsHistory defers batch_size roots m2 (cleared b h)
  cleared_history b out left may took = happened_history defers batch_size roots m m2 h (cleared b h) had (Clears 0 b) tt refl (out, m2, (0, left), may, took, refl) refl

module _ {T : Type 0} (defers : T → Option ℕ) (batch_size roots : ℕ) (m : Mem T) (h : History) (had : IsHistory defers batch_size roots m h) where
  -- these are no operations
  pub linked_history : (b o : ℕ) → h.hand b ≡ Making 0 → IsHistory defers batch_size roots m (linked b o h)
  linked_history b o making = happened_history defers batch_size roots m m h (linked b o h) had (Links 0 b o) tt refl ((0, making), refl) refl

  pub unlinked_history : (b o : ℕ) → h.hand b ≡ InUse o → IsHistory defers batch_size roots m (unlinked b h)
  unlinked_history b o linked = happened_history defers batch_size roots m m h (unlinked b h) had (Unlinks 0 b) tt refl (subst (MayCut 0) (sym linked) tt, refl) refl

  pub chosen_history : (choice : ℕ) → IsHistory defers batch_size roots (record m { choices = m.choices ++ choice ∷ [] }) h
  chosen_history choice =
      happened_history defers batch_size roots m (record m { choices = m.choices ++ choice ∷ [] }) h h had (Chooses choice) tt refl refl refl
