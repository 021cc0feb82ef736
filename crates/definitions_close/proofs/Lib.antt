-- Figures of the amounts and of the test's number.
pub mod AmountsFigures
-- Figures of a store.
pub mod StoreFigures
-- A law of the list of orders.
pub mod Orders
pub mod OrderFigures
-- Figures at the edges.
pub mod EdgeFigures
