-- The net change's figures.
pub mod ChangeFigures
-- The figures of a tried outage.
pub mod OutageFigures
-- What is printed, and where reading stops.
pub mod FileFigures
pub mod EdgeFigures
