use Rattle.std.proofs.Common.{inl, inr, refl, arith}
use Rattle.site_modules.proofs.check.check_module.Goals as goal

-- ---- there is a verdict

pub returns-in-Ok : goal.returns-in-Ok
returns-in-Ok g c = record {
  status = elim c.tell.ensures.status [
    | inl zero ↦ inl zero
    | inr (inl one) ↦ inr (inl one)
    | inr (inr four) ↦ inr (inr (inr four))
  ];
  told = λ low. let told = c.tell.ensures.told low in (c.in-Ok.verdict, c.in-Ok.ensures, told.0, told.1);
  quiet = c.tell.ensures.quiet;
  room = λ three. elim c.tell.ensures.status [
    | inl zero ↦ absurd (omega (arith, three, zero))
    | inr (inl one) ↦ absurd (omega (arith, three, one))
    | inr (inr four) ↦ absurd (omega (arith, three, four))
  ];
  failed = λ four. inr (c.tell.ensures.failed four);
  failures_told = c.tell.ensures.failures_told;
  front = inr (c.in-Ok.verdict, c.in-Ok.ensures, c.tell.ensures.front);
}

-- ---- memory was wanting

pub returns-in-Err : goal.returns-in-Err
returns-in-Err g c = record {
  status = inr (inr (inl c.report.ensures.status));
  told = λ low. absurd (omega (arith, low, c.report.ensures.status));
  quiet = λ low. absurd (omega (arith, low, c.report.ensures.status));
  room = λ _. (c.report.ensures.told, refl);
  failed = λ four. absurd (omega (arith, four, c.report.ensures.status));
  failures_told = λ _. refl;
  front = inl refl;
}
