-- The tests of a file, in their order, obey the law of a history file. Assumes nothing.
use Rattle.std.proofs.Common.{◌≡◌, ℕ, ◌%◌, ◌<◌, Bool, true, false, cond, eqb, ltb, List, length, Some, None, Ok, Err, Option, Result, refl, sym, ap, ◌∙◌, subst, inl, inr, arith}
use Rattle.std.specs.Result.{result_err}
use Rattle.std.proofs.lemmas.Bool.{ltb-true, ltb-false, eqb-true, eqb-false, lt-ltb, le-ltb, eq-eqb, ne_eqb, cond-true, cond-false}
use Rattle.std.proofs.lemmas.Option.{none-some, same_Some}
use Rattle.records.specs.declared.line.Line.{Line}
use Rattle.records.specs.declared.fault.RecordFault.{RecordFault}
use Rattle.records.specs.declared.fault.RecordFault.TheVariants as faults
use Rattle.records.specs.Format.{record_size, fault_number}
use Rattle.records.specs.Parts.{records_in, part}
use Rattle.rules.specs.declared.judge_fault.JudgeFault.{JudgeFault}
use Rattle.rules.specs.declared.judge_fault.JudgeFault.TheVariants.{TooLong, Record, FewMarks, OutOfPlace, NoEnd}
use Rattle.rules.specs.Rules.{largest_file, counted, scanned, unended, if_ended, all_ended, marked, accepted}
use Rattle.rules.specs.Fields.{BadField}
use Rattle.rules.specs.FileLaw.{FitSize, Admitted, IsHistory, CutAt, BadFieldAt, OutOfPlaceAt, UnendedAt, FileLaw}
use Rattle.rules.proofs.FieldLaws.{bad_field, field_refused, long_part}
use Rattle.rules.proofs.ScanLaws.{Spoiled, Misplaced, ScanSays, scan_says, good_scanned, spoiled_scanned, misplaced_scanned}
use Rattle.rules.proofs.EndLaws.{EndsSay, ends_say, all_end_none, first_unended}

-- why a record is refused, by its fault
abbrev pub RecordCause : List ℕ → ℕ → ℕ → RecordFault → Type 0
RecordCause bs marks p faults.Length = CutAt bs p
RecordCause bs marks p faults.Kind = Admitted bs marks × BadFieldAt bs p faults.Kind
RecordCause bs marks p faults.Transaction = Admitted bs marks × BadFieldAt bs p faults.Transaction
RecordCause bs marks p faults.Card = Admitted bs marks × BadFieldAt bs p faults.Card
RecordCause bs marks p faults.Writer = Admitted bs marks × BadFieldAt bs p faults.Writer
RecordCause bs marks p faults.Words = Admitted bs marks × BadFieldAt bs p faults.Words

-- why a file is refused, by its fault
abbrev pub Cause : List ℕ → ℕ → JudgeFault → Type 0
Cause bs marks TooLong = largest_file < length bs
Cause bs marks (Record p) = RecordCause bs marks p.place p.fault
Cause bs marks FewMarks = FitSize bs × (marks < records_in bs)
Cause bs marks (OutOfPlace p) = Admitted bs marks × OutOfPlaceAt bs p
Cause bs marks (NoEnd p) = Admitted bs marks × UnendedAt bs p

abbrev pub Says : List ℕ → ℕ → Result (List Line) JudgeFault → Type 0
Says bs marks (Ok ls) = Admitted bs marks × IsHistory bs
Says bs marks (Err f) = Cause bs marks f

module _ (bs : List ℕ) (marks : ℕ) where
  -- each cause against the scan's own
  spoiled : (p : ℕ) (f : RecordFault) → Spoiled bs (records_in bs) p f → BadFieldAt bs p f
  spoiled p f s = record { lines = s.lines; before = s.before; there = s.there; bad = bad_field (part bs p) (long_part bs p s.there) f s.bad }

  spoils : (p : ℕ) (f : RecordFault) → BadFieldAt bs p f → Spoiled bs (records_in bs) p f
  spoils p f b = record { lines = b.lines; before = b.before; there = b.there; bad = field_refused (part bs p) (long_part bs p b.there) f b.bad }

  misplaced : (p : ℕ) → Misplaced bs (records_in bs) p → OutOfPlaceAt bs p
  misplaced p s = record { lines = s.lines; before = s.before; line = s.line; there = s.there; good = s.good; misplaced = s.misplaced }

  misplaces : (p : ℕ) → OutOfPlaceAt bs p → Misplaced bs (records_in bs) p
  misplaces p b = record { lines = b.lines; before = b.before; line = b.line; there = b.there; good = b.good; misplaced = b.misplaced }

  record_cause : (p : ℕ) (f : RecordFault) → Admitted bs marks → BadFieldAt bs p f → RecordCause bs marks p f
  record_cause p faults.Length a b = absurd (never b.bad)
    where
      never : BadField (part bs p) faults.Length → ⊥
      never (inl (e, is)) = cc
      never (inr (k, e, bad)) = bad
  record_cause p faults.Kind a b = (a, b)
  record_cause p faults.Transaction a b = (a, b)
  record_cause p faults.Card a b = (a, b)
  record_cause p faults.Writer a b = (a, b)
  record_cause p faults.Words a b = (a, b)

  -- what the tests answer is so
  ended : Admitted bs marks → (r : Result (List Line) JudgeFault) → ScanSays bs (records_in bs) r → Says bs marks (all_ended r)
  ended a (Ok ls) g = last (unended ls ls 0) (ends_say ls)
    where
      last : (o : Option ℕ) → EndsSay ls o → Says bs marks (if_ended ls o)
      last None h = (a, record { lines = ls; count = g.count; read = g.read; rules = record { lines = g.rules; ended = h } })
      last (Some p) h = (a, record { lines = ls; all = g; first = h })
  ended a (Err TooLong) h = absurd h
  ended a (Err (Record p)) h = record_cause p.place p.fault a (spoiled p.place p.fault h)
  ended a (Err FewMarks) h = absurd h
  ended a (Err (OutOfPlace p)) h = (a, misplaced p h)
  ended a (Err (NoEnd p)) h = absurd h

  fitting : FitSize bs → (b : Bool) → ltb marks (records_in bs) ≡ b → Says bs marks (cond b (Err FewMarks) (all_ended (scanned bs (records_in bs))))
  fitting s true e = (s, ltb-true marks (records_in bs) e)
  fitting s false e =
      ended (record { fit = s; marked = ltb-false marks (records_in bs) e }) (scanned bs (records_in bs)) (scan_says bs (records_in bs))

  says : Says bs marks (accepted bs marks)
  says = sized (ltb largest_file (length bs)) (eqb (length bs % record_size) 0) refl refl
    where
      sized : (a b : Bool) → ltb largest_file (length bs) ≡ a → eqb (length bs % record_size) 0 ≡ b
          → Says bs marks (marked bs marks (cond a (Err TooLong) (cond b (Ok (records_in bs)) (Err (Record (record { fault = faults.Length; place = records_in bs }))))))
      sized true b e h = ltb-true largest_file (length bs) e
      sized false true e h =
          fitting (record { short = ltb-false largest_file (length bs) e; whole = eqb-true (length bs % record_size) 0 h }) (ltb marks (records_in bs)) refl
      sized false false e h = record {
        short = ltb-false largest_file (length bs) e;
        cut = eqb-false (length bs % record_size) 0 h;
        last = refl;
      }

  -- and what is so, they answer
  counted_fit : FitSize bs → counted bs ≡ Ok (records_in bs)
  counted_fit s =
      cond-false (ltb largest_file (length bs)) _ _ (le-ltb largest_file (length bs) s.short)
      ∙ cond-true (eqb (length bs % record_size) 0) _ _ (eq-eqb (length bs % record_size) 0 s.whole)

  admitted : Admitted bs marks → accepted bs marks ≡ all_ended (scanned bs (records_in bs))
  admitted a =
      ap (marked bs marks) (counted_fit a.fit) ∙ cond-false (ltb marks (records_in bs)) _ _ (le-ltb marks (records_in bs) a.marked)

  history_accepted : Admitted bs marks → (h : IsHistory bs) → accepted bs marks ≡ Ok h.lines
  history_accepted a h =
      admitted a
      ∙ ap all_ended (good_scanned bs (records_in bs) h.lines (record { count = h.count; read = h.read; rules = h.rules.lines }))
      ∙ ap (if_ended h.lines) (all_end_none h.lines h.rules.ended)

  long_refused : largest_file < length bs → accepted bs marks ≡ Err TooLong
  long_refused lt = ap (marked bs marks) (cond-true (ltb largest_file (length bs)) _ _ (lt-ltb largest_file (length bs) lt))

  cut_refused : (p : ℕ) → CutAt bs p → accepted bs marks ≡ Err (Record (record { fault = faults.Length; place = p }))
  cut_refused p c =
      ap (marked bs marks) (cond-false (ltb largest_file (length bs)) _ _ (le-ltb largest_file (length bs) c.short)
      ∙ cond-false (eqb (length bs % record_size) 0) _ _ (ne_eqb (length bs % record_size) 0 c.cut))
      ∙ ap (λ i. Err (Record (record { fault = faults.Length; place = i }))) (sym c.last)

  few_refused : FitSize bs → marks < records_in bs → accepted bs marks ≡ Err FewMarks
  few_refused s lt = ap (marked bs marks) (counted_fit s) ∙ cond-true (ltb marks (records_in bs)) _ _ (lt-ltb marks (records_in bs) lt)

  bad_refused : (p : ℕ) (f : RecordFault) → Admitted bs marks → BadFieldAt bs p f → accepted bs marks ≡ Err (Record (record { fault = f; place = p }))
  bad_refused p f a b = admitted a ∙ ap all_ended (spoiled_scanned bs (records_in bs) p f (spoils p f b))

  misplaced_refused : (p : ℕ) → Admitted bs marks → OutOfPlaceAt bs p → accepted bs marks ≡ Err (OutOfPlace p)
  misplaced_refused p a b = admitted a ∙ ap all_ended (misplaced_scanned bs (records_in bs) p (misplaces p b))

  open_refused : (p : ℕ) → Admitted bs marks → UnendedAt bs p → accepted bs marks ≡ Err (NoEnd p)
  open_refused p a u =
      admitted a ∙ ap all_ended (good_scanned bs (records_in bs) u.lines u.all) ∙ ap (if_ended u.lines) (first_unended u.lines p u.first)

  -- the law, of the tests' answer and so of any with the same fault
  cause : (r : Result (List Line) JudgeFault) → Says bs marks r → (f : JudgeFault) → result_err r ≡ Some f → Cause bs marks f
  cause (Ok ls) h f e = absurd (none-some f e)
  cause (Err g) h f e = subst (Cause bs marks) (same_Some g f e) h

  told : (f : JudgeFault) → result_err (accepted bs marks) ≡ Some f → Cause bs marks f
  told = cause (accepted bs marks) says

  bad_cause : (p : ℕ) (f : RecordFault) → fault_number f ≡ 22 → RecordCause bs marks p f → Admitted bs marks × BadFieldAt bs p f
  bad_cause p faults.Length n c = absurd (omega arith)
  bad_cause p faults.Kind n c = c
  bad_cause p faults.Transaction n c = c
  bad_cause p faults.Card n c = c
  bad_cause p faults.Writer n c = c
  bad_cause p faults.Words n c = c

  grants : (r : Result (List Line) JudgeFault) → Says bs marks r → result_err r ≡ None → Admitted bs marks × IsHistory bs
  grants (Ok ls) h e = h
  grants (Err f) h e = absurd (none-some f (sym e))

  pub file_law : FileLaw bs marks (result_err (accepted bs marks))
  file_law = record {
    granted = (grants (accepted bs marks) says, λ (a, h). ap result_err (history_accepted a h));
    too_long = (told TooLong, λ lt. ap result_err (long_refused lt));
    cut = λ p. (told (Record (record { fault = faults.Length; place = p })), λ c. ap result_err (cut_refused p c));
    few_marks = (told FewMarks, λ (s, lt). ap result_err (few_refused s lt));
    bad_field = λ p f n. (λ e. bad_cause p f n (told (Record (record { fault = f; place = p })) e), λ (a, b). ap result_err (bad_refused p f a b));
    out_of_place = λ p. (told (OutOfPlace p), λ (a, b). ap result_err (misplaced_refused p a b));
    no_end = λ p. (told (NoEnd p), λ (a, u). ap result_err (open_refused p a u));
  }
