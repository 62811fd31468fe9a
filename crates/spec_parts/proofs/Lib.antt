pub mod FewerHidden
