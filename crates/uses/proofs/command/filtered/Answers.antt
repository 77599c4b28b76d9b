use Rattle.ndarray.proofs.Common.{◌≡◌, ◌∙◌, ◌<◌, ◌^◌, ap, arith, inl, length, refl, subst, sym, IfSome, one_axis}
use Rattle.uses.specs.Answering.{CanFilter, PrintsFiltered}
use Rattle.uses.specs.Fir.{IsFilteredSignal}
use Rattle.uses.specs.Printing.{line_text}
use Rattle.uses.specs.Signal.{ReadsSignal}
use Rattle.uses.specs.declared.fault.Fault.TheVariants.{Memory}
use Rattle.uses.proofs.FaultsPassedOn.{passed-on}
use Rattle.uses.proofs.Filtered.{fits-from_some}
use Rattle.uses.proofs.command.filtered.Goals as goal

pub returns-in_err-taps-clause-err : goal.returns-in_err-taps-clause-err
returns-in_err-taps-clause-err c =
    passed-on (ReadsSignal c.args.input.now) (PrintsFiltered c.args.shift c.args.input.now) c.from_residual.result c.in_err-taps.field-0.0 c.from_residual.ensures.1 c.in_err-taps.ensures.err (λ t r. ((r.taps, r.signal), r.read))

pub returns-in_err-filtered-clause-err : goal.returns-in_err-filtered-clause-err
returns-in_err-filtered-clause-err c =
    passed-on (PrintsFiltered c.args.shift c.args.input.now) (PrintsFiltered c.args.shift c.args.input.now) c.from_residual-in_err-filtered.result Memory c.from_residual-in_err-filtered.ensures.1 (inl refl) (λ t r. (t, r))

pub returns-clause-text : goal.returns-clause-text
returns-clause-text c =
    let taps = c.in_ok-taps.taps in
    let signal = c.in_ok-taps.signal in
    let shift = c.args.shift in
    let few : length taps.items < 2 ^ 63 = omega (arith, taps.ok.0, taps.ok.1, taps.small) in
    let short : length signal.items < 2 ^ 63 = omega (arith, signal.ok.0, signal.ok.1, signal.small) in
    let seen_taps : c.from-taps.result ≡ one_axis taps.items = c.from-taps.ensures.cells (subst (λ xs. length xs < 2 ^ 63) (sym c.as_slice.ensures.value) few) ∙ ap one_axis c.as_slice.ensures.value in
    let seen_signal : c.from-signal.result ≡ one_axis signal.items = c.from-signal.ensures.cells (subst (λ xs. length xs < 2 ^ 63) (sym c.as_slice-2.ensures.value) short) ∙ ap one_axis c.as_slice-2.ensures.value in
    let fits : CanFilter c.from-signal.result c.from-taps.result shift = fits-from_some c.in_ok-filtered.field-0 c.in-Some.filtered c.in-Some.is c.in_ok-filtered.ensures.when in
    let samples : IsFilteredSignal c.from-signal.result c.from-taps.result shift c.in-Some.filtered = subst (λ made. IfSome made (IsFilteredSignal c.from-signal.result c.from-taps.result shift)) c.in-Some.is c.in_ok-filtered.ensures.samples in
    record {
      taps = taps.items;
      signal = signal.items;
      filtered = c.in-Some.filtered;
      read = c.in_ok-taps.ensures.read;
      fits = subst (λ t. CanFilter (one_axis signal.items) t shift) seen_taps (subst (λ s. CanFilter s c.from-taps.result shift) seen_signal fits);
      samples = subst (λ t. IsFilteredSignal (one_axis signal.items) t shift c.in-Some.filtered) seen_taps (subst (λ s. IsFilteredSignal s c.from-taps.result shift c.in-Some.filtered) seen_signal samples);
      line = c.in_ok-text.ensures ∙ ap (λ g. line_text g.cells) c.view.ensures.same;
    }
