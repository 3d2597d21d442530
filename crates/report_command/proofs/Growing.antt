-- What is told of the parts of a history, as it grows.
use Rattle.std.proofs.Common.{◌≡◌, inl, inr, ℕ, ◌<◌, ◌≤◌, Bool, true, false, List, [], ◌∷◌, ◌++◌}
use Rattle.std.proofs.Common.{length, take, take_at, refl, sym, ap, ◌∙◌, subst, arith}
use Rattle.std.specs.Prelude.{nat_lt, if◌then◌else◌, Option, None, Some}
use Rattle.std.specs.List.{flat_map}
use Rattle.std.specs.Io.KnownBytes.{Appends}
use Rattle.std.proofs.lemmas.Grind.{flat_map-append}
use Rattle.std.proofs.lemmas.List.{append-nil, length_push, length-append, take-append-le, take_all}
use Rattle.std.proofs.lemmas.Bool.Decides.{nat_tests}
use Rattle.std.proofs.lemmas.Nat.{mod_below}
use Rattle.minislots.specs.declared.config.Config.{Config}
use Rattle.sched_calls.specs.declared.reply.Entry.{Entry}
use Rattle.report_command.specs.declared.form.Form.{Form}
use Rattle.report_command.specs.Form.{Says}
use Rattle.report_command.specs.Range.{ticks_after}
use Rattle.report_command.specs.Series.{IsPart, SaysPart, ArePartsTold, TellsEnded, TellsParts, GoesOnFrom}
use Rattle.report_command.specs.Series.{Serial, IsTellerOf, is_between, with_entry, end_behind, part_ticks}
use Rattle.report_command.specs.Series.{with_more, part_end, heading, first_ms, opened}

-- behind its end no part goes on
reached-end : (s : Serial) → is_between s ≡ true → s.end ≤ ticks_after s.told.config s.told.history
reached-end s is = grind (arith, nat_tests)

before-end-of : (s : Serial) → is_between s ≡ false → ticks_after s.told.config s.told.history < s.end
before-end-of s is = grind (arith, nat_tests)

-- a time lies in its part
pub before-end : (every ticks : ℕ) → 0 < every → ticks < part_end every ticks
before-end every ticks some =
    omega (arith, mod_below ticks (part_ticks every) (omega (arith, some)))

module _ (form : Form) (c : Config) (every : ℕ) (h rest : List Entry) where
  -- one of the first entries stands behind the same
  stays : (place : ℕ) → place ≤ length h → take place (h ++ rest) ≡ take place h
  stays place few = take-append-le place h rest few

  longer : length h ≤ length (h ++ rest)
  longer = omega (arith, length-append h rest)

  -- a part is one still, whatever follows
  part-then : (from upto : ℕ) → IsPart c every h from upto → IsPart c every (h ++ rest) from upto
  part-then from upto is = record {
    some = is.some;
    few = omega (arith, is.few, longer);
    within = λ place least most.
        subst (λ (b : List Entry). ticks_after c b < end_behind c every (take from (h ++ rest)))
        (sym (stays place (omega (arith, most, is.few))))
        (subst (λ (b : List Entry). ticks_after c (take place h) < end_behind c every b)
        (sym (stays from (omega (arith, is.some, is.few)))) (is.within place least most));
  }

  -- and so is what is told of it
  says-then : (from upto : ℕ) (text : List ℕ) → from ≤ length h → upto ≤ length h → SaysPart form c every h from upto text
      → SaysPart form c every (h ++ rest) from upto text
  says-then from upto text few all is = record {
    report = is.report;
    says = subst (λ (b : List Entry). Says form (record { config = c; history = b; passed = from }) is.report)
        (sym (stays upto all)) is.says;
    is = subst (λ (b : List Entry). text ≡ heading form (first_ms every (end_behind c every b)) ++ is.report)
        (sym (stays from few)) is.is;
  }

  -- and of all of them
  pub told-then : (from upto : ℕ) (texts : List (List ℕ)) → ArePartsTold form c every h from upto texts
      → ArePartsTold form c every (h ++ rest) from upto texts
  told-then from upto [] told = told
  told-then from upto (text ∷ texts) (next, part, says, over, told) = (
    next,
    part-then from next part,
    says-then from next text (omega (arith, part.some, part.few)) part.few says,
    subst (λ (b : List Entry). end_behind c every b ≤ ticks_after c (take next (h ++ rest)))
        (sym (stays from (omega (arith, part.some, part.few))))
        (subst (λ (b : List Entry). end_behind c every (take from h) ≤ ticks_after c b) (sym (stays next part.few)) over),
    told-then next upto texts told,
  )

module _ (form : Form) (c : Config) (every : ℕ) (h : List Entry) (upto next : ℕ) (text : List ℕ) where
  -- one part more that is over
  pub told-more : (from : ℕ) (texts : List (List ℕ)) → ArePartsTold form c every h from upto texts
      → IsPart c every h upto next → SaysPart form c every h upto next text
      → end_behind c every (take upto h) ≤ ticks_after c (take next h)
      → ArePartsTold form c every h from next (texts ++ text ∷ [])
  told-more from [] told part says over = subst
      (λ n. ArePartsTold form c every h n next (text ∷ [])) (sym told) (next, part, says, over, refl)
  told-more from (t ∷ texts) (n, p, s, o, told) part says over = (n, p, s, o, told-more n texts told part says over)

-- A part goes on, which what is told now is of; those before it have been told of
pub record IsPending (form : Form) (s : Serial) (text : List ℕ) : Type 0 where
  pub some : 0 < s.every
  pub texts : List (List ℕ)
  pub upto : ℕ
  pub told : ArePartsTold form s.told.config s.every s.told.history 0 upto texts
  pub is : text ≡ flat_map (λ text. text) texts
  pub part : IsPart s.told.config s.every s.told.history upto (length s.told.history)
  pub passed : s.told.passed ≡ upto
  pub end : s.end ≡ end_behind s.told.config s.every (take upto s.told.history)

module _ (form : Form) (s : Serial) (e : Entry) (text : List ℕ) (tells : IsTellerOf form s text) where
  abbrev h : List Entry
  h = s.told.history

  abbrev more : List Entry
  more = h ++ e ∷ []

  at-end : take (length h) more ≡ h
  at-end = take_at h (e ∷ []) (length h) refl

  -- with one entry more another part begins
  begins : 0 < s.every → is_between s ≡ true → IsPending form (record s {
    end = end_behind s.told.config s.every h;
    told = record s.told { history = more; passed = length h };
  }) text
  begins some is = record {
    some = some;
    texts = tells.texts;
    upto = length h;
    told = told-then form s.told.config s.every h (e ∷ []) 0 (length h) tells.texts
        (subst (λ n. ArePartsTold form s.told.config s.every h 0 n tells.texts) (tells.between is) tells.told);
    is = tells.is;
    part = record {
      some = omega (arith, length_push h e);
      few = omega arith;
      within = λ place least most.
          let here : place ≡ length h = omega (arith, least, most, length_push h e) in
          subst (λ n. ticks_after s.told.config (take n more) < end_behind s.told.config s.every (take (length h) more))
          (sym here)
          (subst (λ (b : List Entry). ticks_after s.told.config b < end_behind s.told.config s.every b) (sym at-end)
          (before-end s.every (ticks_after s.told.config h) some));
    };
    passed = refl;
    end = ap (end_behind s.told.config s.every) (sym at-end);
  }

  within-more : is_between s ≡ false → (part : IsPart s.told.config s.every h tells.upto (length h))
      → (place : ℕ) → tells.upto ≤ place → place < length more → (b : Bool) → nat_lt place (length h) ≡ b
      → ticks_after s.told.config (take place more) < end_behind s.told.config s.every (take tells.upto more)
  within-more is part place least most true before =
      (part-then form s.told.config s.every h (e ∷ []) tells.upto (length h) part).within place least
      (let less : place < length h = grind (arith, nat_tests) in less)
  within-more is part place least most false behind =
      let far : length h ≤ place = grind (arith, nat_tests) in
      let here : place ≡ length h = omega (arith, most, far, length_push h e) in
      let early : ticks_after s.told.config h < s.end = grind (arith, nat_tests) in
      subst (λ n. ticks_after s.told.config (take n more) < end_behind s.told.config s.every (take tells.upto more))
      (sym here)
      (subst (λ (b : List Entry). ticks_after s.told.config b
      < end_behind s.told.config s.every (take tells.upto more)) (sym at-end)
      (subst (λ (b : List Entry). ticks_after s.told.config h < end_behind s.told.config s.every b)
      (sym (take-append-le tells.upto h (e ∷ []) (omega (arith, part.some))))
      (subst (λ n. ticks_after s.told.config h < n) (tells.end is) early)))

  -- or the one that goes on has it too
  grows : is_between s ≡ false → IsPending form (record s { told = record s.told { history = more } }) text
  grows is =
      let part = tells.part is in
      record {
        some = tells.some;
        texts = tells.texts;
        upto = tells.upto;
        told = told-then form s.told.config s.every h (e ∷ []) 0 tells.upto tells.texts tells.told;
        is = tells.is;
        part = record {
          some = omega (arith, part.some, length_push h e);
          few = omega arith;
          within = λ place least most. within-more is part place least most (nat_lt place (length h)) refl;
        };
        passed = tells.passed is;
        end = tells.end is ∙ ap (end_behind s.told.config s.every)
            (sym (take-append-le tells.upto h (e ∷ []) (omega (arith, part.some))));
      }

  pending-by : (b : Bool) → is_between s ≡ b → IsPending form (with_more (if b then record s {
    end = end_behind s.told.config s.every h;
    told = record s.told { passed = length h };
  } else s) e) text
  pending-by true is = begins tells.some is
  pending-by false is = grows is

  -- with one entry more a part goes on
  pub pending : IsPending form (with_entry s e) text
  pending = pending-by (is_between s) refl

-- an entry more stands behind the others, under the same configuration
entered-by : (s : Serial) (e : Entry) (b : Bool) → let new = with_more (if b then record s {
  end = end_behind s.told.config s.every s.told.history;
  told = record s.told { passed = length s.told.history };
} else s) e in
    (new.told.config ≡ s.told.config) × (new.every ≡ s.every) × (new.told.history ≡ s.told.history ++ e ∷ [])
entered-by s e true = (refl, refl, refl)
entered-by s e false = (refl, refl, refl)

pub entered : (s : Serial) (e : Entry) → ((with_entry s e).told.config ≡ s.told.config)
    × ((with_entry s e).every ≡ s.every) × ((with_entry s e).told.history ≡ s.told.history ++ e ∷ [])
entered s e = entered-by s e (is_between s)

-- what is told of a part that goes on
pending-says : (form : Form) (s : Serial) (upto : ℕ) (report : List ℕ) → s.told.passed ≡ upto
    → s.end ≡ end_behind s.told.config s.every (take upto s.told.history) → Says form s.told report
    → SaysPart form s.told.config s.every s.told.history upto (length s.told.history)
    (heading form (first_ms s.every s.end) ++ report)
pending-says form s upto report passed end says = record {
  report = report;
  says = subst (λ (b : List Entry). Says form (record { config = s.told.config; history = b; passed = upto }) report)
      (sym (take_all (length s.told.history) s.told.history (omega arith)))
      (subst (λ n. Says form (record s.told { passed = n }) report) passed says);
  is = ap (λ n. heading form (first_ms s.every n) ++ report) end;
}

module _ (form : Form) (s : Serial) (text : List ℕ) where
  -- the part is over, and is told of
  pub pending-over : IsPending form s text → is_between s ≡ true → (report : List ℕ) → Says form s.told report
      → IsTellerOf form s (text ++ (heading form (first_ms s.every s.end) ++ report))
  pending-over p is report says =
      let part-text = heading form (first_ms s.every s.end) ++ report in
      record {
        some = p.some;
        texts = p.texts ++ part-text ∷ [];
        upto = length s.told.history;
        told = told-more form s.told.config s.every s.told.history p.upto (length s.told.history) part-text 0 p.texts p.told
            p.part (pending-says form s p.upto report p.passed p.end says)
            (subst (λ (b : List Entry). end_behind s.told.config s.every (take p.upto s.told.history)
            ≤ ticks_after s.told.config b) (sym (take_all (length s.told.history) s.told.history (omega arith)))
            (subst (λ n. n ≤ ticks_after s.told.config s.told.history) p.end (reached-end s is)));
        is = ap (λ (b : List ℕ). b ++ part-text) p.is
            ∙ ap (λ (b : List ℕ). flat_map (λ text. text) p.texts ++ b) (sym (append-nil part-text))
            ∙ sym (flat_map-append (λ text. text) p.texts (part-text ∷ []));
        between = λ over. refl;
        part = λ going. absurd (cc);
        passed = λ going. absurd (cc);
        end = λ going. absurd (cc);
      }

  -- or it goes on
  pub pending-goes-on : IsPending form s text → is_between s ≡ false → IsTellerOf form s text
  pending-goes-on p is = record {
    some = p.some;
    texts = p.texts;
    upto = p.upto;
    told = p.told;
    is = p.is;
    between = λ over. absurd (cc);
    part = λ going. p.part;
    passed = λ going. p.passed;
    end = λ going. p.end;
  }

  rest-by : (t : IsTellerOf form s text) → (b : Bool) → is_between s ≡ b
      → GoesOnFrom s.told.config s.every s.told.history t.upto
  rest-by t true is = inl (t.between is)
  rest-by t false is = inr (
    t.part is,
    subst (λ n. ticks_after s.told.config s.told.history < n) (t.end is)
        (before-end-of s is),
  )

  -- each part that is over has been told of
  pub ended : IsTellerOf form s text → TellsEnded form s.told.config s.every s.told.history text
  ended t = record { texts = t.texts; upto = t.upto; told = t.told; rest = rest-by t (is_between s) refl; is = t.is }

  -- and so have all, where none goes on
  pub all-between : is_between s ≡ true → IsTellerOf form s text
      → TellsParts form s.told.config s.every s.told.history (text ++ [])
  all-between is t = record {
    texts = t.texts;
    upto = t.upto;
    last = [];
    told = t.told;
    rest = inl (t.between is, refl);
    is = ap (λ (b : List ℕ). b ++ []) t.is;
  }

  -- or where the last one has been told of too
  pub all-told : is_between s ≡ false → (report : List ℕ) → Says form s.told report → IsTellerOf form s text
      → TellsParts form s.told.config s.every s.told.history
      (text ++ (heading form (first_ms s.every s.end) ++ report))
  all-told is report says t = record {
    texts = t.texts;
    upto = t.upto;
    last = heading form (first_ms s.every s.end) ++ report;
    told = t.told;
    rest = inr (t.part is, pending-says form s t.upto report (t.passed is) (t.end is) says);
    is = ap (λ (b : List ℕ). b ++ (heading form (first_ms s.every s.end) ++ report)) t.is;
  }

-- before any entry nothing has been told of
pub opens : (form : Form) (c : Config) (every : ℕ) → IsTellerOf form (opened c every) []
opens form c every = record {
  some = omega arith;
  texts = [];
  upto = 0;
  told = refl;
  is = refl;
  between = λ over. refl;
  part = λ going. absurd (omega (arith, before-end-of (opened c every) going));
  passed = λ going. refl;
  end = λ going. absurd (omega (arith, before-end-of (opened c every) going));
}

-- what is so of the entries with one more is so of those that were taken then
pub entered-as : (P : Config → List Entry → Type 0) (s new : Serial) (e : Entry) → new ≡ with_entry s e
    → P s.told.config (s.told.history ++ e ∷ []) → P new.told.config new.told.history
entered-as P s new e is so =
    subst (λ (n : Serial). P n.told.config n.told.history) (sym is)
    (subst (λ (k : Config). P k (with_entry s e).told.history) (sym (entered s e).0)
    (subst (λ (h : List Entry). P s.told.config h) (sym (entered s e).2) so))

-- nothing was written
pub Appends-none : (a : Option (List ℕ)) → Appends a a []
Appends-none None = tt
Appends-none (Some xs) = sym (append-nil xs)
