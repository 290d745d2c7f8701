-- What a call remembers of its replies, as a value goes into its own block, and comes out of it: it is what it was told.
use Rattle.std.specs.Prelude.{◌≡◌, ◌≢◌, ℕ, ◌/◌, ◌<◌, ◌^◌, ◌==◌, Bool, true, false, List, Option, Some, None, if◌then◌else◌, ◌⊎◌}
use Rattle.std.proofs.Common.{refl, ap, ◌∙◌, inl, eqb-true}
use Rattle.std.proofs.lemmas.Bool.{eqb-false}
use Rattle.seize_model.specs.Given.SeizeWordsWord.{block_in}
use Rattle.seize_model.specs.Given.SeizeWordsMem.{Mem, value_at}
use Rattle.map_facts_late.specs.Given.TablesDeclared.node.Node.{Node}
use Rattle.map_facts_late.specs.Given.TablesDeclared.node.Node.TheVariants as node
use Rattle.map_facts_late.specs.Given.RawReplies.{value_replied, owned, value_for, as_own, back, back_present, with_back}
use Rattle.map_facts_late.specs.Given.RawDeclared.machines.asking.Replies.{Replies}
use Rattle.map_facts_late.specs.Given.RawDeclared.machines.asking.MachineReply.TheVariants as reply
use Rattle.map_facts_late.specs.Given.RawDeclared.machines.asking.Told.{Told}
use Rattle.map_facts_late.specs.Given.RawDeclared.machines.asking.Told.TheVariants as tells
use Rattle.map_facts_late.specs.Given.RawDeclared.machines.call.Calling.TheVariants as at
use Rattle.map_facts_late.specs.Given.RuleChart.{Chart}
use Rattle.map_facts_late.specs.Given.RuleWords.{Blocks, Represents}
use Rattle.map_facts_late.specs.Given.PointsFactsCalls.{RepliesFit}
use Rattle.many_calls.specs.Asked.{Asked, last_reply, OwnHasValueReplied, Recalls, IsAsReplied, DoesAsReplied}
use Rattle.many_calls.proofs.Asked.Stays.{Stays, word_on, recalls_on}
use Rattle.many_calls.proofs.Asked.By.{IsNamed, recalls_word}

-- the value that was told
told_is : {V : Type 0} (told : Told V) (v : V) → value_replied told ≡ Some v → told ≡ tells.Value v
told_is tells.Nothing v e = absurd (cc e)
told_is (tells.Value x) v e = cc e
told_is tells.Own v e = absurd (cc e)
told_is tells.Removes v e = absurd (cc e)

-- that of one pair
same_value : {K V : Type 0} (o : Option (Node K V)) (k k2 : K) (v v2 : V) → o ≡ Some (node.Pair k v) → o ≡ Some (node.Pair k2 v2) → v ≡ v2
same_value o k k2 v v2 e f = cc (e, f)

same_key : {K V : Type 0} (o : Option (Node K V)) (k k2 : K) (v v2 : V) → o ≡ Some (node.Pair k v) → o ≡ Some (node.Pair k2 v2) → Some k ≡ Some k2
same_key o k k2 v v2 e f = cc (e, f)

-- it remembers the same pair, if it did, and takes the same replies
abbrev pub RecallsSame : {K V : Type 0} → Replies K V → Replies K V → Type 0
RecallsSame r r2 = (r2.takes ≡ r.takes) × (r2.pair ≡ r.pair) × (r.present ≢ tells.Nothing → r2.present ≢ tells.Nothing)

module _ {K V : Type 0} (hash : K → ℕ) (m m2 : Mem (Node K V)) (c c2 : Chart K) (blocks blocks2 : Blocks) (its : Option K) (asked : List (Asked V))
    (stays : Stays m m2 c c2 blocks blocks2) (r : Replies K V) (own : ℕ) (h : IsAsReplied hash m c blocks its asked r own) (fit : RepliesFit r) where
  abbrev As2 : Replies K V → ℕ → Type 0
  As2 = IsAsReplied hash m2 c2 blocks2 its asked

  abbrev on : (x : Replies K V) (Told Told2 : ℕ → Type 0) → ((n : ℕ) → Told n → Told2 n) → Recalls hash m c blocks its asked x Told → Recalls hash m2 c2 blocks2 its asked x Told2
  on = recalls_on hash m m2 c c2 blocks blocks2 its asked stays

  -- its key and its value are out of its own block, which is that one now, if it has one
  module _ (key : K) (value : V) (full : 0 < own / 2048) (there : value_at m (own / 2048) ≡ Some (node.Pair key value)) (own2 : ℕ)
      (out : (k : K) (v : V) → 0 < own2 / 2048 → value_at m2 (own2 / 2048) ≡ Some (node.Pair k v) → ⊥) where
    abbrev Backed : Replies K V → Type 0
    Backed x = As2 x own2 × RecallsSame r x

    it_told : (about : Option ℕ) → OwnHasValueReplied hash m c blocks its asked own about → last_reply about asked ≡ Some (reply.Insert value)
    it_told about (some, (k, v, is, own_key, told)) = told ∙ ap (λ (x : V). Some (reply.Insert x)) (same_value (value_at m (own / 2048)) k key v value is there)

    value_same : (v : V) (about : Option ℕ) → last_reply about asked ≡ Some (reply.Insert value) → tells.Value value ≡ tells.Value v → last_reply about asked ≡ Some (reply.Insert v)
    value_same v about told e = told ∙ ap (λ (x : V). Some (reply.Insert x)) (one e)
      where
        one : tells.Value value ≡ tells.Value v → value ≡ v
        one e = cc e

    its_key : its ≡ Some key
    its_key = h.key_own key value full there

    of_present : r.absent ≢ tells.Own → (told : Told V) → r.present ≡ told → Backed (back_present told (record r { key = Some key }) value)
    of_present other tells.Own e = (
      record {
        asks = h.asks;
        key = λ k e. its_key ∙ e;
        key_own = λ k v some is. absurd (out k v some is);
        absent_first = h.absent_first;
        absent = h.absent;
        absent_own = λ own. absurd (other own);
        present = λ v is. on (record r { key = Some key; present = tells.Value value }) _ _ (λ n has. value_same v (Some n) (it_told (Some n) has) is) (let d = h.present_own e in (d.0, d.1, d.2, d.3));
        present_own = λ own. absurd (cc own);
        present_removes = λ removes. absurd (cc removes);
      },
      (refl, refl, λ some nothing. cc nothing),
    )
    of_present other tells.Nothing e = kept other (λ own. cc (own, e))
      where
        kept : r.absent ≢ tells.Own → r.present ≢ tells.Own → Backed (record r { key = Some key })
        kept absent_other present_other = (
          record {
            asks = h.asks;
            key = λ k e. its_key ∙ e;
            key_own = λ k v some is. absurd (out k v some is);
            absent_first = h.absent_first;
            absent = h.absent;
            absent_own = λ own. absurd (absent_other own);
            present = λ v is. on (record r { key = Some key }) _ _ (λ n told. told) (h.present v is);
            present_own = λ own. absurd (present_other own);
            present_removes = λ removes. on (record r { key = Some key }) _ _ (λ n told. told) (h.present_removes removes);
          },
          (refl, refl, λ some. some),
        )
    of_present other (tells.Value x) e = (
      record {
        asks = h.asks;
        key = λ k e. its_key ∙ e;
        key_own = λ k v some is. absurd (out k v some is);
        absent_first = h.absent_first;
        absent = h.absent;
        absent_own = λ own. absurd (other own);
        present = λ v is. on (record r { key = Some key }) _ _ (λ n told. told) (h.present v is);
        present_own = λ own. absurd (cc (own, e));
        present_removes = λ removes. absurd (cc (removes, e));
      },
      (refl, refl, λ some. some),
    )
    of_present other tells.Removes e = (
      record {
        asks = h.asks;
        key = λ k e. its_key ∙ e;
        key_own = λ k v some is. absurd (out k v some is);
        absent_first = h.absent_first;
        absent = h.absent;
        absent_own = λ own. absurd (other own);
        present = λ v is. absurd (cc (is, e));
        present_own = λ own. absurd (cc (own, e));
        present_removes = λ removes. on (record r { key = Some key }) _ _ (λ n told. told) (h.present_removes removes);
      },
      (refl, refl, λ some. some),
    )

    of_absent : (told : Told V) → r.absent ≡ told → Backed (back told (record r { key = Some key }) value)
    of_absent tells.Own e = (
      record {
        asks = h.asks;
        key = λ k e. its_key ∙ e;
        key_own = λ k v some is. absurd (out k v some is);
        absent_first = λ first. absurd (cc first);
        absent = λ v is. value_same v None (it_told None (h.absent_own e)) is;
        absent_own = λ own. absurd (cc own);
        present = λ v is. on (record r { key = Some key; absent = tells.Value value }) _ _ (λ n told. told) (h.present v is);
        present_own = λ own. absurd (fit.one_own e own);
        present_removes = λ removes. on (record r { key = Some key; absent = tells.Value value }) _ _ (λ n told. told) (h.present_removes removes);
      },
      (refl, refl, λ some. some),
    )
    of_absent tells.Nothing e = of_present (λ own. cc (own, e)) r.present refl
    of_absent (tells.Value x) e = of_present (λ own. cc (own, e)) r.present refl
    of_absent tells.Removes e = of_present (λ own. cc (own, e)) r.present refl

    pub backed : Backed (with_back r key value)
    backed = of_absent r.absent refl

  -- its own block has its key and the value that it was told for the word
  module _ (fits : (k : K) → hash k < 2 ^ 64) (root : ℕ) (shows : Represents hash m c blocks root) (key : K) (key_is : r.key ≡ Some key) (word : ℕ) (value : V) (told : value_for r word ≡ Some value)
      (names : (word ≡ 0) ⊎ IsNamed hash fits m c blocks its asked root shows word) (does : word ≢ 0 → block_in word ≡ r.pair)
      (own2 : ℕ) (some : 0 < own2 / 2048) (there : value_at m2 (own2 / 2048) ≡ Some (node.Pair key value)) where
    abbrev Filled : Replies K V → Type 0
    Filled x = (As2 x own2 × DoesAsReplied hash m2 c2 blocks2 its asked x own2 (at.Tries word own2)) × RecallsSame r x

    has : (about : Option ℕ) → last_reply about asked ≡ Some (reply.Insert value) → OwnHasValueReplied hash m2 c2 blocks2 its asked own2 about
    has about is = (some, (key, value, there, h.key key key_is, is))

    key_of : (k : K) (v : V) → value_at m2 (own2 / 2048) ≡ Some (node.Pair k v) → its ≡ Some k
    key_of k v is = h.key key key_is ∙ same_key (value_at m2 (own2 / 2048)) key k value v there is

    by : (b : Bool) → (b ≡ true → word ≡ 0) → (b ≡ false → word ≢ 0) → value_replied (if b then r.absent else r.present) ≡ Some value
        → Filled (record (if b then record r { absent = owned r.absent } else record r { present = owned r.present }) { key = None })
    by true zero other e =
        let is = told_is r.absent value e in
        let own_is : owned r.absent ≡ tells.Own = ap owned is in
        let it_has = has None (h.absent value is) in (
          (
            record {
              asks = h.asks;
              key = λ k e. absurd (cc e);
              key_own = λ k v some is. key_of k v is;
              absent_first = λ first. absurd (cc (own_is, first));
              absent = λ v e. absurd (cc (own_is, e));
              absent_own = λ e. it_has;
              present = λ v e. on (record r { absent = owned r.absent; key = None }) _ _ (λ n told. told) (h.present v e);
              present_own = λ e. absurd (let none = fit.present_own e in cc (none, key_is));
              present_removes = λ e. on (record r { absent = owned r.absent; key = None }) _ _ (λ n told. told) (h.present_removes e);
            },
            inl (refl, None, zero refl, it_has),
          ),
          (refl, refl, λ some. some),
        )
    by false zero other e =
        let is = told_is r.present value e in
        let own_is : owned r.present ≡ tells.Own = ap owned is in
        let d = recalls_word hash fits m c blocks its asked root shows r _ word (does (other refl)) (h.present value is) names in (
          (
            record {
              asks = h.asks;
              key = λ k e. absurd (cc e);
              key_own = λ k v some is. key_of k v is;
              absent_first = h.absent_first;
              absent = h.absent;
              absent_own = λ e. absurd (let none = fit.absent_own e in cc (none, key_is));
              present = λ v e. absurd (cc (own_is, e));
              present_own = λ e. on (record r { present = owned r.present; key = None }) _ _ (λ n. has (Some n)) (h.present value is);
              present_removes = λ e. absurd (cc (own_is, e));
            },
            inl (refl, Some d.0, word_on hash m m2 c c2 blocks blocks2 its asked stays word (Some d.0) d.1, has (Some d.0) d.2),
          ),
          (refl, refl, λ some nothing. cc (own_is, nothing)),
        )

    pub filled_told : Filled (record (as_own r word) { key = None })
    filled_told = by (word == 0) (eqb-true word 0) (eqb-false word 0) told
