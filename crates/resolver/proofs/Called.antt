-- The worked cases, said of the calls by their promise alone. Assumes nothing.
use Rattle.resolver.specs.Worked.{worked, further, resolve-cases}
use Rattle.resolver.specs.Called.{Called, rows_called}

pub worked_called : Called worked
worked_called = rows_called worked resolve-cases.cases

pub further_called : Called further
further_called = rows_called further resolve-cases.further-cases
