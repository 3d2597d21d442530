-- What is read of a first line is what it stands for.
use Rattle.std.proofs.Common.{◌≡◌, ℕ, ◌≤◌, ◌<◌, ◌^◌, false, List, length, Option, Some, None, option_map, IsUtf8, max}
use Rattle.std.proofs.Common.{Ordering, Less, Equal, Greater, refl, sym, ap, ◌∙◌, subst, arith}
use Rattle.std.specs.Prelude.{◌↔◌, codes, IsSomeAnd}
use Rattle.std.specs.Ordering.{nat_cmp, match_ordering}
use Rattle.std.specs.Cmp.Lexicographic.{slice_cmp}
use Rattle.json.specs.Json.{document}
use Rattle.json.specs.Strict.{HasUniqueKeys}
use Rattle.serde_json.specs.Data.{Data, null, boolean, number, string, array, object, Members, no_members, member, depth}
use Rattle.serde_json.specs.Data.{members_depth}
use Rattle.serde_json.specs.Find.{get, get_member}
use Rattle.serde_json.specs.Read.{read, max_depth}
use Rattle.serde_json.specs.Written.{compact_text, has_float}
use Rattle.minislots.specs.declared.config.Config.{Config}
use Rattle.minislots.specs.Config.{IsLawful}
use Rattle.json_fields.specs.Fields.{number_at, u64_at}
use Rattle.history_writing.specs.Fits.{ConfigFits}
use Rattle.state_text.specs.StateText.{state_data}
use Rattle.state_text.proofs.FlowText.{below-fits}
use Rattle.state_text.proofs.Readable.{IsReadable, read-alone, no_float}
use Rattle.segment_line.specs.declared.segment.Segment.{Segment}
use Rattle.segment_line.specs.declared.segment.FirstLine.{FirstLine}
use Rattle.segment_line.specs.declared.segment.FirstLine.TheVariants.{First, Later}
use Rattle.segment_line.specs.declared.segment.TheConstants.{MAX_FIRST_LINE}
use Rattle.segment_line.specs.Fits.{SegmentFits, FirstFits}
use Rattle.segment_line.specs.Opening.{config_under, opening_of}
use Rattle.segment_line.specs.SegmentLine.{parts_data, segment_data, IsSegmentValue, IsFirst, IsFirstLine}
use Rattle.segment_line.proofs.ConfigBack.{config_of-data}

-- ---- values that have one text

-- a text that is read as some value, and is the compact text of another: they are the same
pub value_from_text : (d e : Data) (text : List ℕ) → IsReadable e → depth e ≤ max_depth → read text ≡ Some d
    → text ≡ compact_text e → d ≡ e
value_from_text d e text readable shallow reads same =
    let both : Some d ≡ Some e = sym reads ∙ ap read same ∙ read-alone e readable shallow in
    cc

-- the compact text of a value that is another is that one's
pub text_from_value : (d e : Data) (text : List ℕ) → IsReadable e → (has_float d ≡ false → text ≡ compact_text d)
    → d ≡ e → text ≡ compact_text e
text_from_value d e text readable written same =
    written (ap has_float same ∙ no_float e readable) ∙ ap compact_text same

-- ---- the parts of a segment

depth-any : (o : Ordering) (key : List ℕ) (e x : Data) (ms : Members)
    → match_ordering o (get_member key ms) (Some e) (get_member key ms) ≡ Some x
    → (get_member key ms ≡ Some x → depth x ≤ members_depth ms) → depth x ≤ max (depth e) (members_depth ms)
depth-any Less key e x ms is rest = let deep = rest is in omega (arith, deep)
depth-any Equal key e x ms is rest =
    let same : e ≡ x = cc in
    let deep = ap depth same in
    omega (arith, deep)
depth-any Greater key e x ms is rest = let deep = rest is in omega (arith, deep)

depth-member : (key : List ℕ) (x : Data) (ms : Members) → get_member key ms ≡ Some x → depth x ≤ members_depth ms
depth-member key x no_members is = absurd cc
depth-member key x (member k e ms) is =
    depth-any (slice_cmp nat_cmp key k) key e x ms is (depth-member key x ms)

-- what stands under a key nests no deeper
pub depth-get : (key : List ℕ) (d x : Data) → get key d ≡ Some x → depth x ≤ depth d
depth-get key null x is = absurd cc
depth-get key (boolean b) x is = absurd cc
depth-get key (number n) x is = absurd cc
depth-get key (string s) x is = absurd cc
depth-get key (array ds) x is = absurd cc
depth-get key (object ms) x is = let deep = depth-member key x ms is in omega (arith, deep)

module _ (sum : ℕ) (s : Segment) where
  -- the configuration
  pub config_under-parts : ConfigFits s.config → IsLawful s.config → config_under (parts_data sum s) ≡ Some s.config
  unfolding parts_data
  config_under-parts fits lawful = rw (config_of-data s.config fits) (rw lawful refl)

  -- the number
  pub number-parts : s.number < 2 ^ 64 → u64_at (codes "number") (parts_data sum s) ≡ Some s.number
  unfolding parts_data u64_at number_at
  number-parts fits = below-fits (2 ^ 64) s.number fits

  -- the state
  pub state-parts : get (codes "state") (parts_data sum s) ≡ Some (state_data s.state)
  unfolding parts_data
  state-parts = refl

  -- all of them
  pub parts-segment : get (codes "segment") (segment_data sum s) ≡ Some (parts_data sum s)
  unfolding segment_data
  parts-segment = refl

-- what is found by the parts of an object is the segment whose value has it
pub found-again : (value there : Data) (found : Option Segment) → get (codes "segment") value ≡ Some there
    → ((sum : ℕ) (s : Segment) → SegmentFits s → IsLawful s.config → there ≡ parts_data sum s → found ≡ Some s)
    → (s : Segment) → SegmentFits s → IsSegmentValue value s → found ≡ Some s
found-again value there found stands parts s fits is =
    let both : Some there ≡ Some (parts_data is.sum s) =
    sym stands ∙ ap (get (codes "segment")) is.is ∙ parts-segment is.sum s in
    let same : there ≡ parts_data is.sum s = cc in
    parts is.sum s fits is.lawful same

-- ---- first lines

first-back : (x : Option Config) (c : Config) → option_map First x ≡ Some (First c) → x ≡ Some c
first-back None c is = absurd cc
first-back (Some y) c is =
    let same : y ≡ c = cc in
    ap (λ (z : Config). Some z) same

first-no_later : (x : Option Config) (s : Segment) → option_map First x ≡ Some (Later s) → ⊥
first-no_later None s is = absurd cc
first-no_later (Some y) s is = absurd cc

later-back : (x : Option Segment) (s : Segment) → option_map Later x ≡ Some (Later s) → x ≡ Some s
later-back None s is = absurd cc
later-back (Some y) s is =
    let same : y ≡ s = cc in
    ap (λ (z : Segment). Some z) same

later-no_first : (x : Option Segment) (c : Config) → option_map Later x ≡ Some (First c) → ⊥
later-no_first None c is = absurd cc
later-no_first (Some y) c is = absurd cc

-- no text is a first line that has no value
pub first-no_value : (line : List ℕ) → (IsUtf8 line → read line ≡ None) → (first : FirstLine)
    → (None ≡ Some first) ↔ IsFirstLine line first
first-no_value line none (First c) = (
  λ (is : None ≡ Some (First c)). absurd cc,
  λ is.
      let no : None ≡ Some is.stands.value = sym (none is.stands.utf8) ∙ is.stands.reads in
      absurd cc,
)
first-no_value line none (Later s) = (
  λ (is : None ≡ Some (Later s)). absurd cc,
  λ is.
      let no : None ≡ Some is.stands.value = sym (none is.stands.utf8) ∙ is.stands.reads in
      absurd cc,
)

module _ (line : List ℕ) (found : Data) (utf8 : IsUtf8 line) (reads : read line ≡ Some found) where
  one_value : (d : Data) → read line ≡ Some d → d ≡ found
  one_value d is =
      let both : Some d ≡ Some found = sym is ∙ reads in
      cc

  -- where nothing stands under the key of a segment it is an opening, or nothing
  pub first-alone : length line ≤ MAX_FIRST_LINE → get (codes "segment") found ≡ None → (first : FirstLine)
      → (option_map First (opening_of found) ≡ Some first) ↔ IsFirstLine line first
  first-alone short alone (First c) = (
    λ is. record {
      short = short;
      stands = record {
        value = found;
        utf8 = utf8;
        reads = reads;
        alone = alone;
        config_is = first-back (opening_of found) c is;
      };
    },
    λ is. ap (option_map First)
        (ap opening_of (sym (one_value is.stands.value is.stands.reads)) ∙ is.stands.config_is),
  )
  first-alone short alone (Later s) = (
    λ is. absurd (first-no_later (opening_of found) s is),
    λ is.
        let sum = is.stands.is.sum in
        let no : None ≡ Some (parts_data sum s) =
        sym alone ∙ ap (get (codes "segment")) (sym (one_value is.stands.value is.stands.reads) ∙ is.stands.is.is)
        ∙ parts-segment sum s in
        absurd cc,
  )

  module _ (inner : Data) (there : get (codes "segment") found ≡ Some inner) where
    no_first : (c : Config) → IsFirst line c → ⊥
    no_first c is =
        let no : None ≡ Some inner =
        sym is.alone ∙ ap (get (codes "segment")) (one_value is.value is.reads) ∙ there in
        absurd cc

    -- where something stands there, and a key twice, it is nothing
    pub first-doubled : (IsSomeAnd (document line) HasUniqueKeys → ⊥) → (first : FirstLine)
        → (None ≡ Some first) ↔ IsFirstLine line first
    first-doubled doubled (First c) = (
      λ (is : None ≡ Some (First c)). absurd cc,
      λ is. absurd (no_first c is.stands),
    )
    first-doubled doubled (Later s) = (
      λ (is : None ≡ Some (Later s)). absurd cc,
      λ is. absurd (doubled is.stands.once),
    )

    -- else it is what the value is that of
    pub first-later : length line ≤ MAX_FIRST_LINE → IsSomeAnd (document line) HasUniqueKeys → (o : Option Segment)
        → ((s : Segment) → SegmentFits s → (o ≡ Some s) ↔ IsSegmentValue found s)
        → (first : FirstLine) → FirstFits first → (option_map Later o ≡ Some first) ↔ IsFirstLine line first
    first-later short once o exact (First c) fits = (
      λ is. absurd (later-no_first o c is),
      λ is. absurd (no_first c is.stands),
    )
    first-later short once o exact (Later s) fits = (
      λ is. record {
        short = short;
        stands = record {
          value = found;
          utf8 = utf8;
          reads = reads;
          is = (exact s fits).0 (later-back o s is);
          once = once;
        };
      },
      λ is. ap (option_map Later)
          ((exact s fits).1
          (subst (λ d. IsSegmentValue d s) (one_value is.stands.value is.stands.reads) is.stands.is)),
    )
