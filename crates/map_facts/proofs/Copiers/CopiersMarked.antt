-- A copier, in incremental mode, has marked a place of the root first, and the place holds a pair: it is to copy the pair.
use Rattle.std.specs.Prelude.{Some}
use Rattle.std.proofs.Common.{◌≡◌, ℕ, suc, Bool, true, refl, arith}
use Rattle.std.proofs.lemmas.Bool.{eq-eqb}
use Rattle.papaya_raw.specs.Given.SeizeWorld.{World}
use Rattle.papaya_raw.specs.Given.TablesLengths.{IsTableLen}
use Rattle.map_rule.specs.Given.ResizeCopierMarks.{probing}
use Rattle.papaya_raw.specs.Given.TablesDeclared.node.Node.{Node}
use Rattle.papaya_raw.specs.Given.TablesDeclared.setting.Setting.{Setting}
use Rattle.papaya_raw.specs.Given.TablesDeclared.table.Table.{Table}
use Rattle.map_rule.specs.Given.ResizeDeclared.copier.Copier.{Copier}
use Rattle.map_rule.specs.Chart.{Still, Copying, Holds, Free, Claimed, Chart, put_in}
use Rattle.map_rule.specs.Rule.{IsLawful, Rule}
use Rattle.map_rule.specs.Moves.{is_done_by}
use Rattle.map_rule.specs.Words.{Blocks, place_word}
use Rattle.map_rule.specs.Maps.{spot_of, IsTable}
use Rattle.map_facts.specs.FactsCopies.{CopierFacts, CopiesRoot, HasDone, ClaimsNone, HasSettled, InRange, Works}
use Rattle.map_rule.proofs.Shares.CopiersMoves.{table_beside, one_claimed, share_here, settled_below, alone_beside}
use Rattle.map_rule.proofs.Keys.NamedAlone.{named_alone}
use Rattle.map_rule.proofs.Moves.Totals.{total_put_in}
use Rattle.map_rule.proofs.Keys.TriesSeen.{first_is}

module _ {K V : Type 0} (same : K → K → Bool) (hash : K → ℕ) (w : World (Node K V)) (caller : ℕ) (setting : Setting) (c : Chart K) (blocks : Blocks)
    (p : Copier) (is : p.setting ≡ setting) (n : ℕ) (borrowed : Bool) (k : K) (word : ℕ) where
  -- the chart with the pair's place marked
  abbrev pub marked_chart : Chart K
  marked_chart = record c { place = put_in c.place c.first p.place (Holds n Copying borrowed); share = put_in c.share (suc c.first) p.place (Claimed caller) }

  module _ (copies : CopiesRoot same hash w caller setting c blocks p) (done : HasDone same hash w caller setting c blocks p.done)
      (none : ClaimsNone same hash w caller setting c blocks) (range : InRange same hash w caller setting c blocks p c.first)
      (settled : HasSettled same hash w caller setting c blocks p c.first p.place) (key : c.key n ≡ Some k)
      (free : c.share (suc c.first) p.place ≡ Free) (word_is : word ≡ place_word hash c blocks (Holds n Still borrowed)) (u : World (Node K V)) where
    entered : (table : Table) (t : ℕ) → IsTable c blocks table t → IsTable marked_chart blocks table t
    entered = table_beside c (put_in c.place c.first p.place (Holds n Copying borrowed)) (put_in c.share (suc c.first) p.place (Claimed caller)) c.claim c.copied blocks

    pub works_marked : Works same hash u caller setting marked_chart blocks p n k word
    works_marked = record {
      copies = (entered p.source c.first copies.0, entered p.target (suc c.first) copies.1);
      has_done =
          let same_total = total_put_in (is_done_by caller) c.share (suc c.first) p.place (Claimed caller) (suc c.first) (c.len c.first) (rw free refl) in
          omega (arith, same_total, done);
      claims = (share_here c.share caller (suc c.first) p.place (Claimed caller), one_claimed c.share caller (suc c.first) p.place none);
      in_range = range;
      settled = λ whole. settled_below c.place c.first p.place (Holds n Copying borrowed) (settled whole);
      borrowed = borrowed;
      place = rw (eq-eqb c.first c.first refl, eq-eqb p.place p.place refl) refl;
      key = key;
      word_is = word_is;
    }

    pub probing_marked : IsLawful same (spot_of hash) → Rule same (spot_of hash) true c → IsTableLen (c.len (suc c.first)) → c.place c.first p.place ≡ Holds n Still borrowed
        → CopierFacts same hash u caller setting marked_chart blocks (probing p word (hash k) p.target)
    probing_marked lawful rule is_len there = record {
      setting_is = is;
      point = (
        n,
        k,
        suc c.first,
        0,
        probing_works,
        refl,
        omega arith,
        first_is marked_chart blocks (hash k) (suc c.first) p.target (entered p.target (suc c.first) copies.1) is_len,
        λ g l. absurd (omega (arith, l)),
        (
          alone_beside same (spot_of hash) c (put_in c.share (suc c.first) p.place (Claimed caller)) c.claim c.copied p.place (Holds n Copying borrowed) k
              (named_alone same (spot_of hash) lawful c rule p.place n borrowed k there key),
          λ v later before. absurd (omega (arith, later, before)),
        ),
      );
    }
      where
        probing_works : Works same hash u caller setting marked_chart blocks (probing p word (hash k) p.target) n k word
        probing_works = let x = works_marked in record {
          copies = x.copies;
          has_done = x.has_done;
          claims = x.claims;
          in_range = x.in_range;
          settled = x.settled;
          borrowed = x.borrowed;
          place = x.place;
          key = x.key;
          word_is = x.word_is;
        }
