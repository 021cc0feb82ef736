-- Theorems about the definitions that break where a definition is changed.
pub mod Figures
pub mod RaisedFigures
pub mod EdgeFigures
