use Rattle.std.proofs.Common.{[]}
use Rattle.ndarray.specs.Integers.{int_products}
use Rattle.ndarray.specs.Products.{products_of}
use Rattle.ndarray.proofs.lists.Decisions.{says_no}
use Rattle.ndarray.proofs.sums.MagnitudeSums.{apart-all}
use Rattle.ndarray.proofs.reduce.range_tests.checked_inner.Goals as goal

pub returns-in_default-clause-magnitudes : goal.returns-in_default-clause-magnitudes
returns-in_default-clause-magnitudes g c =
    let products = products_of int_products g.A.Number.value c.args.left c.args.right in
    says_no _ (c.in_default.ensures products [] (apart-all g.A.Number.fits products _ _ (c.no_sums.ensures products)))

pub returns-clause-magnitudes : goal.returns-clause-magnitudes
returns-clause-magnitudes g c =
    let products = products_of int_products g.A.Number.value c.args.left c.args.right in
    c.joined_in_range.ensures.magnitudes products (c.in-Some.ensures products [] (apart-all g.A.Number.fits products _ _ (c.no_sums.ensures products)))

pub returns-clause-selections : goal.returns-clause-selections
returns-clause-selections g c =
    let products = products_of int_products g.A.Number.value c.args.left c.args.right in
    c.joined_in_range.ensures.selections products (c.in-Some.ensures products [] (apart-all g.A.Number.fits products _ _ (c.no_sums.ensures products)))

pub returns-clause-sum : goal.returns-clause-sum
returns-clause-sum g c =
    let products = products_of int_products g.A.Number.value c.args.left c.args.right in
    c.joined_in_range.ensures.sum products (c.in-Some.ensures products [] (apart-all g.A.Number.fits products _ _ (c.no_sums.ensures products)))
