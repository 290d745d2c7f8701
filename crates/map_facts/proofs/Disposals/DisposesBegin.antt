-- A disposal begins: what it knows of the pair of the word that was taken out.
use Rattle.std.specs.Prelude.{◌≡◌, ℕ, ◌*◌, ◌^◌, ◌<◌, Bool, true, false, cond, if◌then◌else◌}
use Rattle.std.proofs.Common.{refl, ap, ◌∙◌}
use Rattle.papaya_raw.specs.Given.SeizeWorld.{World, Parting, Cutting}
use Rattle.papaya_raw.specs.Given.SeizeSettle.{retiring}
use Rattle.papaya_raw.specs.Given.TablesChunks.{is_incremental}
use Rattle.map_rule.specs.Given.ResizeDispose.{retires, start_of, disposing}
use Rattle.papaya_raw.specs.Given.TablesMarks.{link_in, has_mark}
use Rattle.papaya_raw.specs.Given.TablesDeclared.marks.TheConstants.{BORROWED}
use Rattle.papaya_raw.specs.Given.TablesDeclared.node.Node.{Node}
use Rattle.papaya_raw.specs.Given.TablesDeclared.resize_mode.ResizeMode.{ResizeMode}
use Rattle.papaya_raw.specs.Given.TablesDeclared.resize_mode.ResizeMode.TheVariants.{Incremental, Blocking}
use Rattle.papaya_raw.specs.Given.TablesDeclared.setting.Setting.{Setting}
use Rattle.papaya_raw.specs.Given.TablesDeclared.table.Table.{Table}
use Rattle.map_rule.specs.Given.ResizeDeclared.dispose.Disposing.TheVariants as at
use Rattle.map_rule.specs.Chart.{Still, Holds, Chart}
use Rattle.map_rule.specs.Words.{Blocks, byte_of, place_word}
use Rattle.map_rule.specs.Maps.{IsTable}
use Rattle.map_facts.specs.FactsDisposes.{LiesBefore, LiesNowhere, HasLeft, DisposingFacts, DisposeFacts}
use Rattle.map_rule.proofs.Words.PlaceWords.{pair_link}
use Rattle.map_rule.proofs.Words.PlaceWordsMarks.{pair_borrowed}
use Rattle.map_rule.proofs.Words.PlacesShown.{byte_of-few}

module _ {K V : Type 0} (w : World (Node K V)) (caller : ℕ) (setting : Setting) (c : Chart K) (blocks : Blocks) where
  -- A pair that was taken out of a table: one that was borrowed, in incremental mode, may stand in older tables, and its block is parting. Each other one has
  -- been unlinked.
  abbrev pub IsTakenOut : ℕ → ℕ → Bool → Type 0
  IsTakenOut n t borrowed =
      cond (cond (is_incremental setting.mode) borrowed false) ((w.hand (blocks.pair n) ≡ Parting caller) × LiesBefore w caller setting c blocks n t)
      ((w.hand (blocks.pair n) ≡ Cutting caller) × LiesNowhere w caller setting c blocks n)

module _ {K V : Type 0} (hash : K → ℕ) (fits : (k : K) → hash k < 2 ^ 64) (w : World (Node K V)) (caller : ℕ) (setting : Setting) (c : Chart K) (blocks : Blocks) where
  module _ (n t word : ℕ) (borrowed : Bool) (is : word ≡ place_word hash c blocks (Holds n Still borrowed)) where
    link_is : link_in word ≡ blocks.pair n * 2048
    link_is = ap link_in is ∙ pair_link blocks.pair (λ o. byte_of hash (c.key o)) n Still borrowed (byte_of-few hash fits (c.key n))

    mark_is : has_mark word BORROWED ≡ borrowed
    mark_is = ap (λ (x : ℕ). has_mark x BORROWED) is ∙ pair_borrowed blocks.pair (λ o. byte_of hash (c.key o)) n Still borrowed

    -- it is retired
    fresh : (w.hand (blocks.pair n) ≡ Cutting caller) × LiesNowhere w caller setting c blocks n → DisposingFacts w caller setting c blocks n t (retires setting (link_in word))
    fresh out = ((ap (λ (x : ℕ). retiring setting.slot setting.batch_size x) link_is, out.0), out.1)

    starts : (mode : ResizeMode) → setting.mode ≡ mode
        → cond (cond (is_incremental mode) borrowed false) ((w.hand (blocks.pair n) ≡ Parting caller) × LiesBefore w caller setting c blocks n t)
        ((w.hand (blocks.pair n) ≡ Cutting caller) × LiesNowhere w caller setting c blocks n)
        → DisposingFacts w caller setting c blocks n t (start_of setting mode word)
    starts (Incremental chunk) mode_is out = by (has_mark word BORROWED) borrowed mark_is out
      where
        by : (mark b : Bool) → mark ≡ b
            → cond b ((w.hand (blocks.pair n) ≡ Parting caller) × LiesBefore w caller setting c blocks n t)
            ((w.hand (blocks.pair n) ≡ Cutting caller) × LiesNowhere w caller setting c blocks n)
            → DisposingFacts w caller setting c blocks n t (if mark then at.Reads else retires setting (link_in word))
        by true true e out = (ap is_incremental mode_is, out.0, out.1)
        by true false e out = absurd (cc e)
        by false true e out = absurd (cc e)
        by false false e out = fresh out
    starts Blocking mode_is out = fresh out

    -- the disposal of its word
    pub dispose_begins : (table : Table) → IsTable c blocks table t → HasLeft w caller setting c blocks n → IsTakenOut w caller setting c blocks n t borrowed
        → DisposeFacts w caller setting c blocks (disposing setting word table)
    dispose_begins table entered left out = record {
      setting_is = refl;
      n = n;
      t = t;
      left = left;
      pair_is = link_is;
      table = entered;
      point = starts setting.mode refl out;
    }
