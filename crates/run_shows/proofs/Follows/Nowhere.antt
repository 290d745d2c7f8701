-- A step that has left the memory as it was, and has moved nothing: each word names what it named.
use Rattle.std.specs.Prelude.{◌≡◌, ℕ, Bool, [], Some}
use Rattle.std.proofs.Common.{refl, sym, ◌∙◌, ap, subst, inl}
use Rattle.seize_words.specs.declared.at.At.{At}
use Rattle.seize_words.specs.declared.at.At.TheVariants.{Root, Used, Slot, Entry, Word}
use Rattle.seize_words.specs.OneMemory.Mem.{Mem, word_at}
use Rattle.seize_words.specs.OneMemory.Word.{block_in}
use Rattle.seize.specs.World.{World}
use Rattle.run_effects.specs.Given.TablesDeclared.node.Node.{Node}
use Rattle.run_effects.specs.Given.TablesDeclared.setting.Setting.{Setting}
use Rattle.run_effects.specs.declared.changed.Changed.{Changed}
use Rattle.run_effects.specs.declared.changed.Changed.TheVariants as changed
use Rattle.run_effects.specs.Tells.Tells.{PreservesNames}
use Rattle.run_effects.specs.Given.RuleChart.{Chart}
use Rattle.run_effects.specs.Given.RuleWords.{Blocks}
use Rattle.run_effects.specs.Given.RuleInWorld.{IsMapIn, IsFramed, StepSpec}
use Rattle.run_effects.proofs.Given.RuleWorld.Footprints.{framed_same}
use Rattle.run_effects.proofs.Given.RuleWords.LinksOwn.{outs_same, known_same, links_none}
use Rattle.run_effects.proofs.Given.RuleWorld.MovesKnown.{tables_same}
use Rattle.run_effects.proofs.Given.RuleWorld.OthersSpared.{keeps_same}
use Rattle.run_shows.proofs.Follows.Operations.{LeavesBy}

-- it is where it was
abbrev pub went_nowhere : {K V : Type 0} (same : K → K → Bool) (hash : K → ℕ) (setting : Setting) (caller : ℕ) (w : World (Node K V)) (c : Chart K) (blocks : Blocks)
    → IsMapIn same hash setting w c blocks → (m2 : Mem (Node K V)) → m2 ≡ w.memory → StepSpec same hash setting caller w c blocks m2 (λ w2 c2 blocks2. Unit {0})
went_nowhere same hash setting caller w c blocks map m2 is = record {
  w2 = w;
  c2 = c;
  blocks2 = blocks;
  events = [];
  users = tt;
  its = tt;
  runs = refl;
  memory = sym is;
  tables = tables_same c blocks;
  links = links_none caller w w c c blocks refl refl (outs_same w.memory w.hand) (known_same caller w.hand c blocks);
  frame = subst (IsFramed setting caller w c blocks) (sym is) (framed_same setting caller w c blocks);
  spares = λ j other. keeps_same j w.memory w.hand;
  moved = inl refl;
  map = map;
  blocks_same = record { tables = λ t made known. (refl, known); pairs = λ n was known. (refl, known); tables_back = λ t made known. known; pairs_back = λ n was known. known };
  told = tt;
}

-- What it has written was there, so each word names what it named.
module _ {K V : Type 0} (setting : Setting) (c : Chart K) (blocks : Blocks) (m m2 : Mem (Node K V)) (still : m2 ≡ m) (told : Changed) (left : LeavesBy m m2 told) where
  same_word : (at : At) (x y : ℕ) → told ≡ changed.Wrote at x y → y ≡ x
  same_word at x y e =
      let words = subst (LeavesBy m m2) e left in
      let now : word_at m at ≡ Some y = ap (λ (n : Mem (Node K V)). word_at n at) (sym still) ∙ words.1 in
      let was = words.0 in cc (now, was)

  keeps_names : (at : At) (x y : ℕ) → y ≡ x → PreservesNames setting c blocks at x y
  keeps_names (Root r) x y e = λ is. e
  keeps_names (Used r) x y e = tt
  keeps_names (Slot r field) x y e = tt
  keeps_names (Entry b field) x y e = tt
  keeps_names (Word b field) x y e = λ t l known is. (λ next. e, λ place l is. ap block_in e)

  pub names_stay : (at : At) (x y : ℕ) → told ≡ changed.Wrote at x y → PreservesNames setting c blocks at x y
  names_stay at x y e = keeps_names at x y (same_word at x y e)
